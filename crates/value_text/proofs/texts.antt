pub mod Back
pub mod HexNumerals
pub mod Numerals
pub mod Plain
pub mod Printed
pub mod Said
pub mod Shown
