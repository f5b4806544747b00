pub mod Aggregates
pub mod Answers
pub mod Ascending
pub mod Grouping
pub mod Rows
