pub mod Ending
pub mod Job
pub mod Laws
pub mod Line
pub mod Queries
pub mod Reply
pub mod Run
pub mod State
