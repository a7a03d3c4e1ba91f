pub mod Laws
pub mod MessageLemmas
