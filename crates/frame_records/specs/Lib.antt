pub mod Groups
pub mod Seek
pub mod Ways
pub mod Bases
pub mod WayLaws
pub mod Steps
pub mod Loops
