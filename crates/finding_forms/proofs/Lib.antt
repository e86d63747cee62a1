pub mod Printed
mod Windows
pub mod Marks
mod Commands
mod Objects
