mod FewerMarks
pub mod FirstLineLemmas
mod Looks
mod Skips
