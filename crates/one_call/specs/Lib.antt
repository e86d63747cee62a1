pub mod Turns
pub mod Parts
pub mod Lines
pub mod Opened
pub mod Safety
pub mod Calls
pub mod Loops
