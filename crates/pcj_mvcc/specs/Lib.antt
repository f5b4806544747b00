pub mod Acts
pub mod Reading
pub mod Times
pub mod Choices
pub mod Laws
