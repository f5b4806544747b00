mod Begins
mod Distinct
mod Documents
