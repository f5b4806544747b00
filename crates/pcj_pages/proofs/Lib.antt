pub mod Lifted
pub mod Orders
pub mod Passed
pub mod Places
pub mod Replacing
pub mod Searches
pub mod Summaries
pub mod Walks
