pub mod Numbers
pub mod Cells
pub mod Tags
pub mod Several
pub mod Names
pub mod Ranges
