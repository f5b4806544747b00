pub mod Known
pub mod Agrees
pub mod Laws
