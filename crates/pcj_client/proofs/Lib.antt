pub mod JobLemmas
pub mod StepLemmas
pub mod SoundLemmas
pub mod MoveLemmas
pub mod LoadLemmas
pub mod TreeLemmas
pub mod RegisterLemmas
pub mod KindLemmas
