pub mod TxnLemmas
pub mod RecoveryLemmas
pub mod ReadLemmas
pub mod ActorLemmas
pub mod KindLemmas
