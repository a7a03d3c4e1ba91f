-- What the proofs of the crates above may cite.
pub use Rattle.port_set.proofs.Fits.{all_bits}
pub use Rattle.port_set.proofs.Members.{in_set_true, in_set_from, owned_ports_members}
pub use Rattle.port_set.proofs.Shares.{owned_ports_are, in_set_at, counts_from, tail_split}
pub use Rattle.port_set.proofs.Spans.{length-ports_between}
