pub mod CellLemmas
pub mod AddedLemmas
pub mod MetLemmas
pub mod PurposeLemmas
pub mod WorkLemmas
