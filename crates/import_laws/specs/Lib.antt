pub mod Imported
pub mod Bases
pub mod Shown
pub mod Filed
