pub mod ReaderLemmas
mod RecoveryLemmas
mod RowLemmas
mod MatchLemmas
pub mod ScanLemmas
mod RangeLemmas
