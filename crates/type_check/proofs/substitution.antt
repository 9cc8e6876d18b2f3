pub mod GivenSame
pub mod Instances
pub mod PutArrays
pub mod PutSorted
pub mod Renamed
pub mod Shifted
