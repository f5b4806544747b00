pub mod Edits
pub mod Places
pub mod Ranges
pub mod Tables
