pub mod Fit
pub mod Queries
pub mod Sound
pub mod Laws
pub mod QueryLaws
pub mod WorkLaws
pub mod FinderLaws
