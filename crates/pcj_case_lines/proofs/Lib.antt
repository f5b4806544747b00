mod FieldLemmas
mod WordLemmas
