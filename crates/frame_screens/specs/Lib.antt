pub mod Frames
pub mod Screens
pub mod Laws
pub mod Painted
pub mod Gallery
pub mod Loops
