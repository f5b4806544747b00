pub mod CodePoints
pub mod Compare
pub mod Truth
