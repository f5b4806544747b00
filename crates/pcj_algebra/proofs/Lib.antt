pub mod MatchLemmas
mod NameLemmas
pub mod OneMatch
