pub mod SoakText
