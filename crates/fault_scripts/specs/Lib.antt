pub mod FaultLaws
pub mod Outcomes
pub mod Loops
pub mod Shows
pub mod Faults
