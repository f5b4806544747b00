pub mod AnswerLemmas
pub mod EmptyTable
pub mod EntryLemmas
pub mod InputLemmas
pub mod RunLemmas
pub mod ScriptLemmas
pub mod WordLemmas
