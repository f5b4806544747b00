pub mod Numbers
pub mod Events
pub mod Told
pub mod CallLemmas
