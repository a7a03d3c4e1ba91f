-- What the proofs of the crates above may cite.
pub use Rattle.table_words.proofs.Halving.{reads_on}
