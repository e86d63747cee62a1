pub mod PublishLaws
pub mod ServingLaws
