pub mod Laws
pub mod Name
pub mod Range
pub mod Read
pub mod Reading
pub mod Tag
