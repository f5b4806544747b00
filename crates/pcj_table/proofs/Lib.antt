pub mod Versions
pub mod RowLemmas
pub mod EntryLemmas
