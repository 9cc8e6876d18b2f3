pub mod Loop
pub mod ItemLoop
pub mod Loops
pub mod Printed
