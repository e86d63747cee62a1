pub mod Rows
pub mod Seven
pub mod Sent
pub mod Words
pub mod Seen
