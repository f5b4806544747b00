pub mod Decisions
pub mod Plain
