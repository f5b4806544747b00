pub mod ReadLemmas
pub mod AskedLemmas
pub mod AddLemmas
pub mod MeetLemmas
pub mod TripleLemmas
pub mod BackfillLemmas
pub mod PatternLemmas
pub mod PassLemmas
