-- What the proofs of the crates above may cite.
pub use Rattle.icmp_codec.proofs.MessageLemmas.{icmp4_of-bytes}
