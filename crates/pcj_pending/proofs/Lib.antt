pub mod WalkLemmas
pub mod FitLemmas
pub mod QuietLemmas
pub mod CountLemmas
pub mod MoveLemmas
pub mod LockLemmas
