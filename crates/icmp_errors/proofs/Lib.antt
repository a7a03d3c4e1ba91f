pub mod PolicyLemmas
pub mod PushLemmas
pub mod QuoteLemmas
