pub mod StepLaws
pub mod Progress
pub mod ActorLaws
