pub mod Added
pub mod Observers
pub mod Laws
