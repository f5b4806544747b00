pub mod Answer
pub mod Entry
pub mod Input
pub mod Runs
pub mod Stop
pub mod Usage
