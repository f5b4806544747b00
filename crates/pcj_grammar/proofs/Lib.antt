pub mod Steps
pub mod Clauses
pub mod Runs
pub mod Readings
pub mod ReadSteps
pub mod Unambiguous
