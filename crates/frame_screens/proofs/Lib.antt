pub mod Rows
pub mod Ways
pub mod Cells
pub mod Painted
pub mod Since
pub mod Placed
