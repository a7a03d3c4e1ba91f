pub mod SendableLemmas
pub mod PlaceLemmas
