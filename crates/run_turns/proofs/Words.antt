-- The names that the proofs of this crate take from its specs and from the crates below.
pub use Rattle.aftr_io.proofs.OutsideLemmas.{read_well}
pub use Rattle.aftr_io.specs.Contents.{Contents, Moves, Told, content}
pub use Rattle.aftr_io.specs.Outside.{Readable, Rises, Written as WrittenFiles, has_failed}
pub use Rattle.aftr_io.specs.declared.outside.Fault.{Fault}
pub use Rattle.aftr_text.specs.Jobs.{AreApart, StandsOnce, names_of}
pub use Rattle.aftr_text.specs.declared.jobs.LoadWords.{LoadWords}
pub use Rattle.aftr_text.specs.declared.jobs.RunJob.{RunJob}
pub use Rattle.area_swap.specs.Values.{AreasValue, HasWholeShare}
pub use Rattle.area_swap.specs.declared.board.View.{View}
pub use Rattle.binding_rules.specs.Tables.{BindingTable}
pub use Rattle.capture_io.specs.Refusals.{EndsInRecords}
pub use Rattle.capture_io.specs.Rounds.{Left, Precedes, is_cut}
pub use Rattle.capture_io.specs.declared.forms.CaptureBad.{CaptureBad}
pub use Rattle.capture_io.specs.declared.forms.Rec.{Rec}
pub use Rattle.capture_io.specs.declared.rounds.Ending.{Ending}
pub use Rattle.error_limit.specs.Limits.{Bucket}
pub use Rattle.ip_codec.specs.declared.items.Item.{Item}
pub use Rattle.item_stage.specs.Items.{entries_of, items_in}
pub use Rattle.item_stage.specs.Stages.{StagedRecords as StagedValue}
pub use Rattle.item_stage.specs.declared.entries.Entry.{Entry}
pub use Rattle.output_journal.proofs.LogLemmas.{did_none, holds_round, logs_others, logs_spoiled, take_round}
pub use Rattle.output_journal.specs.Log.{AreDistinct, Logged, Logs, Step, round_log}
pub use Rattle.run_output.specs.Counting.{no_totals, totals_from}
pub use Rattle.run_output.specs.Laws.{AreJoined}
pub use Rattle.run_output.specs.Limiting.{HasAsked, IsLimited, rate_of}
pub use Rattle.run_output.specs.Outputs.{Course, lines_from, packets_from}
pub use Rattle.run_output.specs.Passing.{HasCounted}
pub use Rattle.run_output.specs.Rendering.{HasOutcomes, IsCourseOf, IsRendered, lines_in, packets_in}
pub use Rattle.run_output.specs.Versions.{NamedSlot, load_lines, slot_text}
pub use Rattle.run_output.specs.declared.parts.Part.{Part}
pub use Rattle.run_turns.specs.Broken.{AreBefore, Breaks, HasBegun, IsBehind, IsCutFrom, IsFrontOf, Takes}
pub use Rattle.run_turns.specs.Fills.{Filled, HasDrawn, HasEnded, HasFetched, HasFilled, IsCutShort, Standing, Taking, WereRead}
pub use Rattle.run_turns.specs.Passes.{HasPassedTurn, IsPassed, Judged, JudgesTurn, PassesBy, PutsBy, PutsNothing, Putting}
pub use Rattle.run_turns.specs.Progress.{AreWritten, Goes, HasTaken, HasWritten, IsInRange, IsLimitedRun, IsUpToDate, State, Suits, Wrote}
pub use Rattle.run_turns.specs.Rounds.{HasJudged, IsNext, RoundLaws}
pub use Rattle.run_turns.specs.Runs.{EndsBy, IsAtStart, IsBench, IsFirst, IsNewLine, IsOffDuty, Leaves, WentWell}
pub use Rattle.run_turns.specs.Seats.{HasJoined}
pub use Rattle.run_turns.specs.Setups.{OthersKept, ReadsOf, Setup, Spot, all_asking, loads_of, outputs_of}
pub use Rattle.run_turns.specs.Turns.{HoldsNothing, IsFree, reads_of, share_of}
pub use Rattle.run_turns.specs.Writing.{Did, DidFront}
pub use Rattle.run_turns.specs.declared.progress.Progress.{Progress}
pub use Rattle.run_turns.specs.declared.run.Work.{Work}
pub use Rattle.run_turns.specs.declared.turn.TurnSeat.{TurnSeat}
pub use Rattle.std.proofs.Common.{All, Bool, Err, List, None, Ok, Option, Some, [], ap, append-nil, append_assoc, arith, cond, drop, false, get_or, inl, inr, length, length-append, map, refl, slice_get, subst, suc, sym, take, take-append-drop, true, zero, ℕ, ◌++◌, ◌+◌, ◌-◌, ◌<◌, ◌==◌, ◌^◌, ◌∙◌, ◌∷◌, ◌≡◌, ◌≢◌, ◌≤◌, ◌⊎◌}
pub use Rattle.std.proofs.Math.Seq.{take-append_seam, take-length, take-suc}
pub use Rattle.std.proofs.lemmas.Bool.{cases_lt}
pub use Rattle.std.proofs.lemmas.Bool.Decides.{eqb_tells}
pub use Rattle.std.proofs.lemmas.Grind.{flat_map-append}
pub use Rattle.std.proofs.lemmas.List.{get_or-append-add, get_or_append_left, length-map, map-append, take_all}
pub use Rattle.std.proofs.lemmas.List.Elements.{All-append}
pub use Rattle.std.proofs.lemmas.List.FromFn.{get_or-range_with_len, length-range_with_len}
pub use Rattle.std.proofs.lemmas.List.Sums.{sum_by-append, sum_by-cons, sum_by-le-sum_by}
pub use Rattle.std.proofs.lemmas.Option.{get_or_from_slice_get, slice_get-get_or, slice_get-map, slice_get_within}
pub use Rattle.std.proofs.lemmas.Slice.Eq.{bytes_eq-Decides}
pub use Rattle.std.specs.List.{Contains, range_with_len, sum_by}
pub use Rattle.std.specs.Option.{option_map}
pub use Rattle.std.specs.Prelude.{bytes_eq}
pub use Rattle.swap_core.specs.Plans.{Tables, table, window}
pub use Rattle.swap_core.specs.States.{consecutive}
pub use Rattle.table_words.specs.Layout.{IsCompiled}
pub use Rattle.verdict_core.specs.Verdicts.{verdict_of}
pub use Rattle.worker_gate.specs.Crews.{no_outcome}
pub use Rattle.worker_gate.specs.Holders.{HeldValue}
pub use Rattle.worker_gate.specs.Outcomes.{asking, asks, draw_of}
pub use Rattle.worker_gate.specs.Reloading.{IsSettled, NoneIsLeft, WaitsFor}
pub use Rattle.worker_gate.specs.Turns.{DrawsNothing}
pub use Rattle.worker_gate.specs.WholeRounds.{AreOutcomes, HasJudgedWhole}
pub use Rattle.worker_gate.specs.declared.outcomes.Outcome.{Outcome}
