-- What the proofs of the crates above may cite.
pub use Rattle.softwire_encap.proofs.PassingLemmas.{IsLikeOld, ip4_of-lowered, like_old}
pub use Rattle.softwire_encap.proofs.TunnelLemmas.{wrapped-pushed}
