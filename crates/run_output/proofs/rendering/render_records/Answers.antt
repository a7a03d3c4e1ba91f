use Rattle.std.proofs.Common.{◌≡◌, ℕ, suc, ◌<◌, Bool, List, [], ◌∷◌, false, drop, length, subst, sym, arith}
use Rattle.std.specs.Prelude.{slice_index_or}
use Rattle.capture_io.specs.Records as records
use Rattle.run_output.specs.Cells.{Cell, cells_in, shown}
use Rattle.worker_gate.specs.declared.outcomes.Outcome.{Outcome}
use Rattle.run_output.proofs.CellLemmas.{cell_there, entry_there, mark_read}
use Rattle.run_output.proofs.PartLemmas.{begun_first, begun_last, begun_more, same_written}
use Rattle.run_output.proofs.RoundLemmas.{round_cells}
use Rattle.run_output.proofs.rendering.render_records.Goals as goal

pub render_record-requires-clause-fits : goal.render_record-requires-clause-fits
render_record-requires-clause-fits c = λ i there.
    c.requires.fitting.fits c.records.i (c.get-outcome.result.now) i c.get-outcome.ensures there

pub render_record-requires-clause-room : goal.render_record-requires-clause-room
render_record-requires-clause-room c =
    c.requires.fitting.room c.records.i (c.get-outcome.result.now) c.get-outcome.ensures

pub records-init : goal.records-init
records-init c =
    let round = c.args.round.now in
    let roomy = c.in_ok-reserve.ensures in
    record {
      after = omega arith;
      before = c.requires.order;
      number = c.of-number.ensures;
      begun = begun_first round.written (cells_in round) c.args.from c.args.to _
          (same_written round.written [] c.args.part.now _ roomy.packets roomy.lines roomy.counted c.requires.empty);
    }

pub records-preserved : goal.records-preserved
records-preserved c =
    let round = c.args.round.now in
    let o : Outcome = c.get-outcome.result.now in
    let l : Bool = slice_index_or round.limited.now c.records.i false in
    let marked : c.records.i < length round.limited.now = omega (arith, round.marked, c.requires.inside, c.records-test.true) in
    let entry = entry_there round.items.now c.records.i (omega (arith, round.same, c.requires.inside, c.records-test.true)) in
    let cell : Cell = shown c.records.number c.get-record.result entry.0 o l in
    let there = subst (λ (n : ℕ). drop c.records.i (cells_in round) ≡ shown n c.get-record.result entry.0 o l ∷ drop (suc c.records.i) (cells_in round)) (sym c.records.invariant.number)
    (cell_there round.start round.records.now round.items.now round.outcomes.now round.limited.now c.records.i
    (records.seen c.get-record.result) entry.0 o l
    c.get-record.ensures entry.1 c.get-outcome.ensures (mark_read round.limited.now c.records.i false marked)) in
    record {
      after = omega arith;
      before = omega arith;
      number = omega (arith, c.rise.ensures, c.records.invariant.number);
      begun = begun_more round.written (cells_in round) c.args.from c.args.to c.records.i cell c.records.part c.render_record.new.part
          c.records.invariant.after c.records-test.true there (c.in_ok-render_record.ensures.more entry.0 entry.1) c.in_ok-render_record.ensures.within c.records.invariant.begun;
    }

pub returns : goal.returns
returns c =
    let round = c.args.round.now in
    let all : List Cell = cells_in round in
    let size : length all ≡ length round.records.now = round_cells round c.requires.fitting in
    begun_last round.written all c.args.from c.args.to c.records.i c.records.part c.requires.order (omega arith) (omega (arith, size, c.requires.inside)) c.records.invariant.begun
