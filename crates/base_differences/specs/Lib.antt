pub mod Differences
pub mod Summaries
