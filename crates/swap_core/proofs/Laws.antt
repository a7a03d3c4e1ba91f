-- What the proofs of the crates above may cite.
pub use Rattle.swap_core.proofs.Begun.{opening_sound}
pub use Rattle.swap_core.proofs.Bounds.{few_records, few_versions}
pub use Rattle.swap_core.proofs.DeskMoves.{due_sound, count_sound, write_sound, publish_sound}
pub use Rattle.swap_core.proofs.Moves.{weight, looks_sound, enters_sound, confirms_sound, leaves_sound, claimed_area, counted_there, reads_whole}
pub use Rattle.swap_core.proofs.PlanLemmas.{table_fits, window_at}
pub use Rattle.swap_core.proofs.Pointing.{in_window_of, settled_points}
pub use Rattle.swap_core.proofs.Seating.{newcomer_sound, merged_sound}
pub use Rattle.swap_core.proofs.Several.{several_sound}
pub use Rattle.swap_core.proofs.Standing.{standing_sound}
