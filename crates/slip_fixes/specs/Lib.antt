pub mod Bytes
pub mod Certain
pub mod Loops
pub mod NearKeys
pub mod Rounds
pub mod TomlSlips
pub mod Values
