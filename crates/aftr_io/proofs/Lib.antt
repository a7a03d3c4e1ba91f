mod ContentLemmas
mod HandleLemmas
pub mod OutsideLemmas
mod PieceLemmas
mod ShelfLemmas
mod WindowLemmas
