pub mod Kind
pub mod Query
pub mod Reading
pub mod Heading
pub mod Clauses
pub mod Listing
