pub mod CommitLemmas
pub mod ActLemmas
pub mod ClaimLemmas
