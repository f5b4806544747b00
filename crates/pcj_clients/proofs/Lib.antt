pub mod JobLemmas
pub mod PlaceLemmas
pub mod SoundLemmas
pub mod StepsLemmas
