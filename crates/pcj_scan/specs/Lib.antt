pub mod Errors
pub mod Readers
pub mod Ranges
pub mod Scans
