pub mod Integers
pub mod Hex
pub mod HexReads
pub mod Literals
