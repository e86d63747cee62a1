pub mod ChainLaws
pub mod LineLaws
pub mod MomentLaws
pub mod NewNumbers
pub mod TakenSteps
