pub mod Adding
pub mod Pages
pub mod Search
pub mod Summary
pub mod Walk
