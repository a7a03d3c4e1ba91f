pub mod FieldLemmas
mod HalfLemmas
pub mod Laws
pub mod Packet4Lemmas
pub mod Packet6Lemmas
pub mod PartLemmas
mod PlainLemmas
