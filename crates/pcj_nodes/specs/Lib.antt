pub mod Puts
pub mod Nodes
pub mod Tasks
pub mod Commits
pub mod Laws
