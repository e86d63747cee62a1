pub mod Devices
pub mod Loops
