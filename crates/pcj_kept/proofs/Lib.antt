pub mod RangeLemmas
pub mod MatchLemmas
pub mod PassLemmas
pub mod AlikeLemmas
pub mod ExportLemmas
pub mod EmptyLemmas
pub mod KeptLemmas
