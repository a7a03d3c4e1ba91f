-- What the proofs of the crates above may cite.
pub use Rattle.error_limit.proofs.Marking.{kept, sent}
