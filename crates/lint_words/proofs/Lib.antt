mod Quotes
pub mod LineParts
mod Showing
