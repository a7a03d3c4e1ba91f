pub mod CutLemmas
pub mod KeptLemmas
pub mod PartLemmas
pub mod PieceLemmas
