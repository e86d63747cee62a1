pub mod Table
pub mod CoverLaws
