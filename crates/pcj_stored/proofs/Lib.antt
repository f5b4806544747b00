pub mod TokenLemmas
pub mod CharacterLemmas
pub mod StringLemmas
pub mod TermLemmas
pub mod ExprLemmas
pub mod GroupLemmas
pub mod StoredLemmas
