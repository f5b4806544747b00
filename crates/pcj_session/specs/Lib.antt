pub mod Draws
pub mod Registry
pub mod Names
pub mod Language
pub mod Lines
pub mod Session
