pub mod Worked
pub mod Marks
pub mod Shown
pub mod ReadBack
pub mod Written
pub mod Placed
pub mod Fits
