pub mod Versions
pub mod Rows
pub mod Laws
pub mod Choices
