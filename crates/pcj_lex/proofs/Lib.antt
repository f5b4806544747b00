pub mod Forms
pub mod Longest
pub mod FirstRule
pub mod Places
