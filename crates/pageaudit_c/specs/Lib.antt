pub mod Status
pub mod Checks
pub mod Audits
pub mod Lints
pub mod Shows
pub mod Changes
pub mod Calls
