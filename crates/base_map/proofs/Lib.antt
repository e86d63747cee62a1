pub mod Runs
pub mod Founds
pub mod WaySteps
pub mod Among
pub mod Distinct
pub mod EdgeLaws
