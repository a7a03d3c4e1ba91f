mod FrontLemmas
pub mod Laws
mod PassingLemmas
mod TunnelLemmas
pub mod PlaceLemmas
