pub mod Candidates
pub mod NextEditions
pub mod Putting
pub mod Served
