pub mod Paint
pub mod Plain
pub mod Start
pub mod Loops
