pub mod UnderChoice
pub mod ChoiceLaws
