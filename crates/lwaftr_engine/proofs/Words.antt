-- The names that the proofs of this crate take from its specs and from the crates below.
pub use Rattle.std.proofs.Common.{All, Bool, Err, IsErr, IsErrAnd, List, None, Ok, Option, Result, Some, [], ap, append-nil, append_assoc, arith, codes, cond}
pub use Rattle.std.proofs.Common.{count_by, drop, false, flat_map, get_or, if◌then◌else◌, inl, inr, le-leb, le-ltb, length, length-append, length-take}
pub use Rattle.std.proofs.Common.{length-take-le, map, max, nat_le, nat_lt, not, refl, rules, slice_get, slice_index, subst, suc, sym, take, take-append-drop}
pub use Rattle.std.proofs.Common.{true, unwrap_or, zero, ℕ, ◌%◌, ◌*◌, ◌++◌, ◌+◌, ◌-◌, ◌<◌, ◌==◌, ◌^◌, ◌∙◌, ◌∷◌, ◌≡◌, ◌≢◌, ◌≤◌, ◌⊎◌}
pub use Rattle.std.proofs.Math.Seq.{take-add, take-append-add, take-append_seam, take-length, take-nil, take-suc}
pub use Rattle.std.proofs.lemmas.Bool.{cases_lt, eq-eqb, true≢false}
pub use Rattle.std.proofs.lemmas.Bool.Decides.{eqb_tells, nat_tests}
pub use Rattle.std.proofs.lemmas.Cmp.{eq_by_cmp_equiv}
pub use Rattle.std.proofs.lemmas.Grind.{flat_map-append}
pub use Rattle.std.proofs.lemmas.List.{get_or-append-add, get_or_append_left, length-map, map-append, take_all}
pub use Rattle.std.proofs.lemmas.List.Elements.{All-append, All-cons, All-get_or, All-nil, Contains-append_left, Contains-append_right}
pub use Rattle.std.proofs.lemmas.List.FromFn.{get_or-range_with_len, length-map-range_with_len, length-range_with_len}
pub use Rattle.std.proofs.lemmas.List.Sums.{count_by-le-length, sum_by-append, sum_by-cons, sum_by-le-sum_by}
pub use Rattle.std.proofs.lemmas.Option.{get_or_from_slice_get, slice_get-get_or, slice_get-map, slice_get_read, slice_get_within}
pub use Rattle.std.proofs.lemmas.Slice.Eq.{bytes_eq-Decides}
pub use Rattle.std.proofs.lemmas.Slice.Zip.{all_zipped_more}
pub use Rattle.std.specs.Cmp.Lexicographic.{nat_list_cmp_total, slice_cmp}
pub use Rattle.std.specs.FinMap.{get, get-insert, insert}
pub use Rattle.std.specs.List.{range_with_len, sum_by}
pub use Rattle.std.specs.Ordering.{eq_by_cmp, nat_cmp}
pub use Rattle.std.specs.Prelude.{IfErr, OnOk, bytes_eq, min, replicate, slice_index_or, ◌&&◌, IfOk, IfSome, string_bytes}
pub use Rattle.std.specs.List.{AllZip, Contains}
pub use Rattle.std.specs.Option.{option_map}
pub use Rattle.aftr_io.proofs.OutsideLemmas.{read_well}
pub use Rattle.aftr_io.specs.Memory.{SinkInMemory}
pub use Rattle.aftr_io.specs.Outside.{OnlyReads}
pub use Rattle.aftr_io.specs.Pieces.{AppendedAll}
pub use Rattle.aftr_base.specs.declared.lists.OutOfMemory.{OutOfMemory}
pub use Rattle.aftr_text.specs.Jobs.{AreWorkers, Asks, AsksRun, IsLimit, StandsOnce, names_of}
pub use Rattle.aftr_text.specs.Parts.{Parts, texts}
pub use Rattle.area_swap.specs.declared.areas.Areas.{Areas}
pub use Rattle.area_swap.specs.declared.board.View.{View}
pub use Rattle.binding_file.specs.Files.{AnswerOf, IsFileCause, fits, most_bytes}
pub use Rattle.binding_file.specs.Keys.{Then}
pub use Rattle.binding_file.specs.declared.refusals.FileError.{FileError}
pub use Rattle.capture_io.specs.Answers.{is_read_fault}
pub use Rattle.capture_io.specs.Capture.{IsCapture, Splits}
pub use Rattle.capture_io.specs.Classic.{left_of, stands_in}
pub use Rattle.capture_io.specs.Packets.{packet_bytes}
pub use Rattle.capture_io.specs.Record.{nanoseconds}
pub use Rattle.capture_io.specs.Refusals.{RefusesHeader}
pub use Rattle.capture_io.specs.Written.{IsRecordable, TimedPacket, capture_bytes, timed, written_form}
pub use Rattle.capture_io.specs.declared.classic.ClassicReader.{ClassicReader}
pub use Rattle.error_limit.proofs.LawLemmas.{kept, sent}
pub use Rattle.error_limit.specs.Limits.{second}
pub use Rattle.ip_codec.specs.Packet6.{bytes6}
pub use Rattle.item_stage.specs.Items.{rows_of}
pub use Rattle.item_stage.specs.Turns.{entries_from, no_rows, rows_after, turn}
pub use Rattle.item_stage.specs.declared.rows.Rows.{Rows}
pub use Rattle.load_files.specs.Texts.{IsLoadOfFile}
pub use Rattle.pcapng_io.specs.Answers.{EndsBehind, IsInHeader}
pub use Rattle.pcapng_io.specs.Captures.{is_pcapng}
pub use Rattle.pcapng_io.specs.Either.{IsFresh, IsInHead, IsInHeadBy, OpensEither, RefusesBy, form_either, left_either, place_either, stands_either, written_as}
pub use Rattle.pcapng_io.specs.Standing.{Standing}
pub use Rattle.pcapng_io.specs.declared.either.Reader.{Reader}
pub use Rattle.pcapng_io.specs.declared.interface.Interface.{Interface}
pub use Rattle.reload_plan.specs.Accepted.{AreSound, slot_of, window_in, windows_read, words_in, words_read}
pub use Rattle.reload_plan.specs.declared.loads.Loaded.{Loaded}
pub use Rattle.run_output.specs.Laws.{AreJoined, IsSameBut}
pub use Rattle.run_output.specs.Limiting.{passed_in, tells, times_of, told_from, told_if}
pub use Rattle.run_output.specs.Outputs.{record_text, sent_unless}
pub use Rattle.run_output.specs.Rendering.{AreFitting}
pub use Rattle.swap_core.proofs.Laws.{settled_points, window_at}
pub use Rattle.swap_core.specs.Plans.{IsNotBefore, IsPlan, IsWindow, always}
pub use Rattle.swap_core.specs.Points.{AreInWindows}
pub use Rattle.table_words.specs.Answers.{first_b4}
pub use Rattle.traffic_gen.specs.Drawing.{drawn, state_after}
pub use Rattle.traffic_gen.specs.Traffic.{generated, packet4_of, packet_by, tunnel_head, way_of}
pub use Rattle.traffic_gen.specs.declared.generator.Draw.{Draw}
pub use Rattle.traffic_gen.specs.declared.generator.Kind.{Kind}
pub use Rattle.traffic_gen.specs.declared.packets.Way.{Way}
pub use Rattle.verdict_core.specs.Fitting.{Fits, HasRoom}
pub use Rattle.worker_gate.specs.Crews.{no_outcome}
pub use Rattle.worker_gate.specs.Outcomes.{asking, draw_of}
pub use Rattle.worker_gate.specs.Reloading.{NoneIsLeft, WaitsFor}
pub use Rattle.worker_gate.specs.Rounds.{IsRound}
pub use borrow.Author.Tests.{lt-leb}
pub use Rattle.lwaftr_engine.specs.Words.{AreAllPoints, AreApart, AreCompiled, AreDrawn, AreRising, Binding, BindingTable, Bucket, CaptureBad, CaptureError}
pub use Rattle.lwaftr_engine.specs.Words.{Contents, Course, Ending, EndsInRecords, Entry, FailsAt, Fault, FileRefused, Form, HasAsked, HasOutcomes}
pub use Rattle.lwaftr_engine.specs.Words.{HasWholeShare, HistoryValue, IsCompiled, IsCourseOf, IsHistory, IsLawful, IsLimited, IsLoad, IsLoadedAs, IsOfRecord}
pub use Rattle.lwaftr_engine.specs.Words.{IsPlaced, IsRate, IsRendered, IsSettled, IsSound, IsWithin, IsWorkers, Item, Left, LimitsAreSome, Load, LoadFile}
pub use Rattle.lwaftr_engine.specs.Words.{LoadWords, Made, Moves, NamedSlot, NoTable, NoneIsDue, Outcome, Part, Pending, Precedes, Progress, Rec}
pub use Rattle.lwaftr_engine.specs.Words.{Readable, Rises, Round, Router, RunJob, Seen, SettledPointsAreAll, Shift, Show, Slot, Stands, Status, TableOf, Tables}
pub use Rattle.lwaftr_engine.specs.Words.{TextOf, Told, Totals, V4, V6, Window, Writes, Written, WrittenFiles, accepted, asks, bound, capture_of, content}
pub use Rattle.lwaftr_engine.specs.Words.{ended_text, entries_of, file_head, has_failed, in_force, initial_text, is_cut, items_in, lines_from, lines_in}
pub use Rattle.lwaftr_engine.specs.Words.{load_lines, migrated_text, named, no_totals, output_of, packets_from, packets_in, rate_of, slot_text, slots_from}
pub use Rattle.lwaftr_engine.specs.Words.{summary_text, table, table_from, totals_from, totals_of, unfinished_of, verdict_at, verdict_of, verdicts_of, window}
pub use Rattle.lwaftr_engine.specs.Words.{windows_of, with_version}
pub use Rattle.lwaftr_engine.specs.Answered.{IsNoTable, IsOwnerText, Puts}
pub use Rattle.lwaftr_engine.specs.Broken.{Breaks, HasBegun, IsBrokenFrom, IsCutFrom, Takes}
pub use Rattle.lwaftr_engine.specs.Causes.{FailsBehind, FailsIn, HasCause, HasOneCause, IsFault, IsReadOf, MayFailIn, NoneOfFilesRose}
pub use Rattle.lwaftr_engine.specs.Demos.{HasDemoHistory, IsDemo, IsDemoLine, KeepsDemo, demo_tables, half_way, middle, middle_window}
pub use Rattle.lwaftr_engine.specs.Endings.{AreBefore, AreTables, IsBehind, IsBehindTable, IsUnread, IsWhole, IsWholeRun, table_names}
pub use Rattle.lwaftr_engine.specs.Finishing.{Finishes, FinishesPart, HasHistoryBy, IsFinished, IsHalfFinished, last_line, last_lines, last_steps}
pub use Rattle.lwaftr_engine.specs.Finishing.{last_round, last_versions}
pub use Rattle.lwaftr_engine.specs.Fronts.{AreTaken, HoldsFront, IsAtSummary, IsBroken, IsBrokenRun, IsFront, IsFrontOf, IsUnder, Stop, is_failure, is_table}
pub use Rattle.lwaftr_engine.specs.Fronts.{shown_points, stop_by, whole_lines}
pub use Rattle.lwaftr_engine.specs.Inputs.{Header, IsInput, IsInputBy, blocks_of, classic_of, header_by, header_of, in_blocks, in_classic}
pub use Rattle.lwaftr_engine.specs.Loads.{AreFitFor, AreLoadsOf, FailsAmong, HasWindowOf, IsFileOf, IsFitFor, IsLoadOf, OnlyReadsAmong}
pub use Rattle.lwaftr_engine.specs.Migrations.{HoldsText, IsMigratedLine, LeavesMigrated, in_edition_two}
pub use Rattle.lwaftr_engine.specs.Planned.{AreNumbered, AreSlotsOf, IsAtFirst, IsEarly, IsMade, IsRunJob, IsStopped, LeavesBy, LeavesMade, LeavesOpened}
pub use Rattle.lwaftr_engine.specs.Planned.{ended_status, some_slot_refused, unopened_status}
pub use Rattle.lwaftr_engine.specs.Progress.{AddsTo, AreWritten, Goes, HasTaken, HasWritten, IsClosed, IsLimitedRun, IsOnDuty, IsUpToDate, KeepsRest, ReadsOf}
pub use Rattle.lwaftr_engine.specs.Progress.{Setup, Spot, State, Suits, Wrote, loads_of, setup_of, spot, state_of}
pub use Rattle.lwaftr_engine.specs.Promises.{AsksDone, GoesWithRead, GoesWithRefusal, HasHistory, HasSummary, IsAskedFor, IsSummedUp, KeepsRun, Leaves}
pub use Rattle.lwaftr_engine.specs.Prompt.{IsLeft}
pub use Rattle.lwaftr_engine.specs.Questions.{Answers, IsLineOf, IsOwnerLine, NamesOwner, RefusesAs}
pub use Rattle.lwaftr_engine.specs.RunLaws.{RunLaws}
pub use Rattle.lwaftr_engine.specs.Runs.{IsCourse, IsHistoryOf, IsPlanOf, IsRun, IsWritten, OthersKept, all_asking}
pub use Rattle.lwaftr_engine.specs.Shows.{IsDemoJob, IsDemoMade, IsShow}
pub use Rattle.lwaftr_engine.specs.Tables.{Answer, AreAnswers, slots_in, some_refused, table_by, tables_in, windows_in}
pub use Rattle.lwaftr_engine.specs.Underway.{CanGoOn, CanJudge, HasJudged, HasRead, IsAtStart, IsFirst, IsInHand, IsNext, IsNothing, IsPending, IsSettledAt}
pub use Rattle.lwaftr_engine.specs.Underway.{IsUnderWay, PutsAndReads, ReadsPast, StandsBetween, StaysOnDuty, WentWell, steps_of}
pub use Rattle.lwaftr_engine.specs.Worlds.{Halves, World, halves, world}
pub use Rattle.lwaftr_engine.specs.Writing.{BreaksLast, Did, DidBoth, DidFront, opening_steps, outputs_of}
pub use Rattle.output_journal.proofs.LogLemmas.{behind, did_join, did_none, holds_adds, holds_round, holds_two, logs_done, logs_front, logs_others}
pub use Rattle.output_journal.proofs.LogLemmas.{logs_spoiled, take_adds, take_both, take_round}
pub use Rattle.output_journal.specs.Ends.{Ends, OneRises, Puts as PutsLine, SinkState, sink_state}
pub use Rattle.output_journal.specs.Log.{AreDistinct, Logged, Logs, OutputNames, Step, adds, holds, last_log, make, name_of, opening_log, round_log}
pub use Rattle.output_journal.specs.declared.names.Output.{Output}
pub use Rattle.lwaftr_engine.specs.declared.rounds.UnderWay.{UnderWay}
