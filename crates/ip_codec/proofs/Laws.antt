-- What the proofs of the crates above may cite.
pub use Rattle.ip_codec.proofs.FieldLemmas.{big_endian-bytes_high_first, span-append}
pub use Rattle.ip_codec.proofs.Packet4Lemmas.{fragment_bits, ip4_of-Ok, ip4_of-alone, ip4_of-header4, ip4_of-joined, ip4_of-shaped}
pub use Rattle.ip_codec.proofs.Packet6Lemmas.{ip6_of-bytes6}
pub use Rattle.ip_codec.proofs.PartLemmas.{checksum-parts, front-joined}
