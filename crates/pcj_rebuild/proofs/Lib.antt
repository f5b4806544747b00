pub mod PartLemmas
pub mod QueryLemmas
