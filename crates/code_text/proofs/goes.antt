pub mod Goes
pub mod PickGoes
pub mod Common
pub mod Pick
pub mod Words
pub mod Spelled
