pub mod Chains
pub mod Folders
pub mod Moments
pub mod Names
pub mod NumberLines
pub mod Sums
