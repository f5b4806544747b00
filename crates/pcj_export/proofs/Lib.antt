mod LineLemmas
mod WalkLemmas
