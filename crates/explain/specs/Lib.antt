pub mod Lines
pub mod Listed
pub mod Words
pub mod Loops
