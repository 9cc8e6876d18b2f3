pub mod Codec
pub mod Parts
pub mod Either
pub mod Items
pub mod Many
