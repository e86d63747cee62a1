pub mod Words
pub mod Passed
