pub mod NumberLemmas
pub mod ReadingLemmas
pub mod StandingLemmas
pub mod WalkLemmas
