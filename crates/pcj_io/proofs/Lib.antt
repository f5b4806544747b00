pub mod Appended
pub mod Causes
pub mod Consumed
pub mod Errors
mod Given
