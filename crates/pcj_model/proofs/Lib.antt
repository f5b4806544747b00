pub mod EndingLaws
pub mod JoinLaws
pub mod LineLaws
pub mod ReplyLaws
pub mod RunLaws
pub mod StateLaws
pub mod StepLaws
pub mod TextLaws
