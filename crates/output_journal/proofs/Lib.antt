mod EntryLemmas
pub mod LogLemmas
mod MoveLemmas
mod PartLemmas
