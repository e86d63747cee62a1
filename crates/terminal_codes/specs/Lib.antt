pub mod Screen
pub mod Writes
pub mod Bodies
