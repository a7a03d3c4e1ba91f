-- What the proofs of the crates above may cite.
pub use Rattle.reassembly_lane.proofs.Each.{EachStays, Stays, each_fed}
