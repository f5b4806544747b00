pub mod Progress
pub mod Steps
pub mod Errors
pub mod Refusals
