pub mod Matches
pub mod Passes
pub mod Exports
pub mod Kept
pub mod Laws
