pub mod Joining
pub mod Merging
pub mod Order
pub mod Sets
pub mod Solutions
