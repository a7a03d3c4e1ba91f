-- The names that the specs of this crate take from the crates below.
pub use Rattle.aftr_io.specs.Contents.{Contents, Moves, Told, content}
pub use Rattle.aftr_io.specs.Outside.{OnlyReads, Readable, Rises, Rose, Written as WrittenFiles, has_failed}
pub use Rattle.aftr_io.specs.declared.outside.Fault.{Fault}
pub use Rattle.aftr_text.specs.declared.jobs.RunJob.{RunJob}
pub use Rattle.aftr_text.specs.declared.summaries.Totals.{Totals}
pub use Rattle.area_swap.specs.Values.{AreasValue, DrawsAlone, HasWholeShare, IsIdle, IsOf, SeatValue}
pub use Rattle.area_swap.specs.declared.board.View.{View}
pub use Rattle.capture_io.specs.Refusals.{EndsInRecords}
pub use Rattle.capture_io.specs.Rounds.{GoesOn, IsPlaced, Left, Precedes, is_cut}
pub use Rattle.capture_io.specs.declared.forms.CaptureBad.{CaptureBad}
pub use Rattle.capture_io.specs.declared.forms.Form.{Form}
pub use Rattle.capture_io.specs.declared.forms.Rec.{Rec}
pub use Rattle.capture_io.specs.declared.rounds.Ending.{Ending}
pub use Rattle.capture_io.specs.declared.rounds.Round.{Round}
pub use Rattle.capture_io.specs.declared.written.Written.{Written}
pub use Rattle.error_limit.specs.Limits.{Bucket}
pub use Rattle.ip_codec.specs.declared.items.Item.{Item}
pub use Rattle.item_stage.specs.Items.{entries_of, items_in}
pub use Rattle.item_stage.specs.Stages.{StagedRecords as StagedValue, Staged, Stands}
pub use Rattle.item_stage.specs.declared.entries.Entry.{Entry}
pub use Rattle.output_journal.specs.Log.{Logged, Logs, OutputNames, Step, round_log}
pub use Rattle.reload_plan.specs.declared.loads.Slot.{Slot}
pub use Rattle.run_output.specs.Counting.{IsWithin, no_totals, totals_from}
pub use Rattle.run_output.specs.Limiting.{HasAsked, IsLimited, rate_of}
pub use Rattle.run_output.specs.Outputs.{Course, lines_from, packets_from}
pub use Rattle.run_output.specs.Passing.{HasCounted, HasPassed}
pub use Rattle.run_output.specs.Rendering.{HasOutcomes, IsCourseOf, IsRendered}
pub use Rattle.run_output.specs.Versions.{NamedSlot, NoneIsDue, between, load_lines, named}
pub use Rattle.run_output.specs.declared.parts.Part.{Part}
pub use Rattle.run_output.specs.declared.rounds.DrawnRound.{DrawnRound}
pub use Rattle.swap_core.specs.Plans.{Tables, table, window}
pub use Rattle.swap_core.specs.States.{consecutive}
pub use Rattle.table_words.specs.Layout.{AreCompiled, IsCompiled}
pub use Rattle.worker_gate.specs.Holders.{FreeValue, HeldValue}
pub use Rattle.worker_gate.specs.Outcomes.{asks}
pub use Rattle.worker_gate.specs.Reloading.{CanReload, IsSettled, KeepsPoints}
pub use Rattle.worker_gate.specs.Turns.{DrawsNothing}
pub use Rattle.worker_gate.specs.declared.outcomes.Outcome.{Outcome}
pub use Rattle.run_turns.specs.declared.progress.Progress.{Progress}
pub use Rattle.run_turns.specs.declared.tasks.Task.{Task}
pub use Rattle.run_turns.specs.declared.run.Work.{Work}
