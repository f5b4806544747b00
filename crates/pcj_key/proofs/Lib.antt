pub mod Reading
pub mod Keys
pub mod Ordered
pub mod Ranges
pub mod Runs
