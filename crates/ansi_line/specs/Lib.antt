pub mod AnsiLines
pub mod AnsiTyped
pub mod AnsiReading
pub mod Laws
