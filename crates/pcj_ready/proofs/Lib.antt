pub mod TreeLemmas
pub mod TrueLemmas
pub mod QuietLemmas
