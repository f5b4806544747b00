pub mod ViewLemmas
pub mod PutLemmas
pub mod TreeLemmas
pub mod StayLemmas
pub mod FactLemmas
pub mod NodeLemmas
pub mod TaskLemmas
