pub mod Match
pub mod Matching
pub mod Variables
