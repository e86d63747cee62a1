pub mod Ordering
pub mod Intakes
pub mod Alike
