pub mod Keys
pub mod Job
pub mod Events
pub mod Kinds
pub mod Begun
