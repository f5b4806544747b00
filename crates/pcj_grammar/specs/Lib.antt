pub mod Grammar
pub mod Reading
pub mod Terminal
pub mod Text
pub mod Parsing
