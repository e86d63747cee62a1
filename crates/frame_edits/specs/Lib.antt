pub mod Merging
pub mod Loops
pub mod Laws
