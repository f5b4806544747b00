pub mod Query
pub mod Parts
pub mod Laws
