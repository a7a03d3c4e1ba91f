-- The names that the specs of this crate take from the crates below, and its own types.
pub use Rattle.addr_text.specs.Canonical.{IsCanonical, groups_of}
pub use Rattle.aftr_io.specs.Contents.{Contents, Moves, Told, Writes, content}
pub use Rattle.aftr_io.specs.Outside.{FailsAt, OnlyReads, Readable, Rises, Rose, Written as WrittenFiles, has_failed}
pub use Rattle.aftr_base.specs.declared.numbers.V4.{V4}
pub use Rattle.aftr_base.specs.declared.numbers.V6.{V6}
pub use Rattle.aftr_io.specs.declared.outside.Fault.{Fault}
pub use Rattle.aftr_text.specs.Jobs.{AreApart, AreRising, IsLoad, IsRate, IsWorkers, windows_of}
pub use Rattle.aftr_text.specs.Lines.{ended_text, initial_text, migrated_text, summary_text}
pub use Rattle.aftr_text.specs.declared.jobs.LoadWords.{LoadWords}
pub use Rattle.aftr_text.specs.declared.jobs.RunJob.{RunJob}
pub use Rattle.aftr_text.specs.declared.summaries.Totals.{Totals}
pub use Rattle.area_swap.specs.Histories.{AreDrawn, HistoryValue, IsHistory}
pub use Rattle.area_swap.specs.Values.{HasWholeShare, IsIdle, IsOf, IsResting}
pub use Rattle.binding_file.specs.Files.{TableOf, TextOf}
pub use Rattle.binding_file.specs.Names.{refused_text}
pub use Rattle.binding_file.specs.declared.refusals.FileRefused.{FileRefused}
pub use Rattle.binding_rules.specs.Bindings.{bound}
pub use Rattle.binding_rules.specs.Tables.{BindingTable, IsLawful, IsValid, binding_table}
pub use Rattle.binding_rules.specs.declared.binding.Binding.{Binding}
pub use Rattle.capture_io.specs.Packets.{file_head}
pub use Rattle.capture_io.specs.Refusals.{EndsInRecords, IsOfHeader, IsOfRecord}
pub use Rattle.capture_io.specs.Rounds.{GoesOn, IsPlaced, Left, Precedes, is_cut}
pub use Rattle.capture_io.specs.Texts.{capture_text}
pub use Rattle.capture_io.specs.declared.forms.CaptureBad.{CaptureBad}
pub use Rattle.capture_io.specs.declared.forms.CaptureError.{CaptureError}
pub use Rattle.capture_io.specs.declared.forms.Form.{Form}
pub use Rattle.capture_io.specs.declared.forms.Rec.{Rec}
pub use Rattle.capture_io.specs.declared.rounds.Ending.{Ending}
pub use Rattle.capture_io.specs.declared.rounds.Round.{Round}
pub use Rattle.capture_io.specs.declared.written.Written.{Written}
pub use Rattle.error_limit.specs.Limits.{Bucket}
pub use Rattle.ip_codec.specs.declared.items.Item.{Item}
pub use Rattle.item_stage.specs.Items.{entries_of, items_in, unfinished_of}
pub use Rattle.item_stage.specs.Stages.{Staged, Stands}
pub use Rattle.item_stage.specs.declared.entries.Entry.{Entry}
pub use Rattle.load_files.specs.Texts.{IsLoadedAs}
pub use Rattle.load_files.specs.declared.files.LoadFile.{LoadFile}
pub use Rattle.output_journal.specs.Ends.{Ends, OneRises, Puts as PutsLine, SinkState, sink_state}
pub use Rattle.output_journal.specs.Log.{Logged, Logs, OutputNames, Step, last_log, opening_log, round_log}
pub use Rattle.packet_render.specs.Counted.{Sends}
pub use Rattle.packet_render.specs.Sent.{sent}
pub use Rattle.pcapng_io.specs.Seen.{Seen}
pub use Rattle.reload_plan.specs.Accepted.{IsSound, accepted, slots_from}
pub use Rattle.reload_plan.specs.declared.loads.Load.{Load}
pub use Rattle.reload_plan.specs.declared.loads.Made.{Made}
pub use Rattle.reload_plan.specs.declared.loads.Slot.{Slot}
pub use Rattle.run_output.specs.Counting.{IsWithin, no_totals, totals_from, with_version}
pub use Rattle.run_output.specs.Laws.{CountsAreTotals, LimitsAreSome, LimitsBegin, LoadLinesJoin, RoundsJoin}
pub use Rattle.run_output.specs.Limiting.{HasAsked, IsLimited, rate_of}
pub use Rattle.run_output.specs.Outputs.{Course, lines_from, output_of, packets_from, totals_of, verdict_at, verdicts_of}
pub use Rattle.run_output.specs.Rendering.{HasOutcomes, IsCourseOf, IsRendered, lines_in, packets_in}
pub use Rattle.run_output.specs.Versions.{NamedSlot, NoneIsDue, between, load_lines, named, slot_text, versions_of}
pub use Rattle.run_output.specs.declared.parts.Part.{Part}
pub use Rattle.swap_core.specs.Laws.{SettledPointsAreAll}
pub use Rattle.swap_core.specs.Plans.{Tables, table, window}
pub use Rattle.swap_core.specs.Points.{AreAllPoints, in_force}
pub use Rattle.swap_core.specs.declared.plan.Window.{Window}
pub use Rattle.table_words.specs.Layout.{AreCompiled, IsCompiled}
pub use Rattle.traffic_gen.specs.Traffic.{capture_of, table_from}
pub use Rattle.verdict_core.specs.Access.{HasAccess}
pub use Rattle.verdict_core.specs.Verdicts.{verdict_of}
pub use Rattle.verdict_core.specs.declared.verdicts.Verdict.{Verdict}
pub use Rattle.worker_gate.specs.Outcomes.{asks}
pub use Rattle.worker_gate.specs.Reloading.{IsSettled}
pub use Rattle.worker_gate.specs.declared.outcomes.Outcome.{Outcome}
pub use Rattle.lwaftr_engine.specs.declared.at_once.AtOnce.{AtOnce}
pub use Rattle.lwaftr_engine.specs.declared.demo.Show.{Show}
pub use Rattle.lwaftr_engine.specs.declared.rounds.Pending.{Pending}
pub use Rattle.lwaftr_engine.specs.declared.rounds.Progress.{Progress}
pub use Rattle.lwaftr_engine.specs.declared.rounds.Router.{Router}
pub use Rattle.lwaftr_engine.specs.declared.shift.Shift.{Shift}
pub use Rattle.lwaftr_engine.specs.declared.status.Status.{Status}
pub use Rattle.lwaftr_engine.specs.declared.table_file.NoTable.{NoTable}
pub use Rattle.lwaftr_engine.specs.declared.tasks.Task.{Task}
