pub mod Clock
pub mod Draw
pub mod Calls
pub mod Run
pub mod Law
