pub mod AskLemmas
pub mod RowLemmas
