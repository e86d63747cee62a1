pub mod ExitStatus
pub mod Loops
pub mod Publishing
pub mod Serving
