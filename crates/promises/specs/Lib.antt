pub mod Kept
pub mod Headlines
pub mod Changes
pub mod Audits
