pub mod CellLemmas
pub mod NumberLemmas
