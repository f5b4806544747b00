pub mod UsesTaken
pub mod Walked
pub mod NamesFound
pub mod FaultsFound
