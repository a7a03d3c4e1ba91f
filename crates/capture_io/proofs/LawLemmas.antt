-- What the proofs of the crates above may cite.
pub use Rattle.capture_io.proofs.FetchLemmas.{kept_start, start_of_start}
pub use Rattle.capture_io.proofs.FrontLemmas.{short_front, span_front}
pub use Rattle.capture_io.proofs.TakenLemmas.{all_more, but_last, captured_more, length_more}
pub use Rattle.capture_io.proofs.WindowLemmas.{front_behind}
