pub mod IdLaws
pub mod Ways
pub mod WayLaws
pub mod Ids
pub mod Keys
pub mod Texts
pub mod Parts
pub mod Loops
