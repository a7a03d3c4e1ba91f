-- Record by record.
use Rattle.std.proofs.Common.{◌≡◌, ◌∙◌, ℕ, ◌+◌, ◌<◌, Bool, length, subst, arith}
use Rattle.capture_io.specs.Records as records
use Rattle.capture_io.specs.declared.forms.Rec.{Rec}
use Rattle.ip_codec.specs.Seen.{seen}
use Rattle.worker_gate.specs.Judging.{HasJudgedOne}
use Rattle.worker_gate.specs.declared.outcomes.Outcome.{Outcome}
use Rattle.worker_gate.proofs.Judged.{read_none, read_on}
use Rattle.run_output.specs.Cells.{IsMore, cell_of}
use Rattle.run_output.proofs.CellLemmas.{entry_there}
use Rattle.run_output.proofs.PartLemmas.{is_empty}
use Rattle.run_output.proofs.PassLemmas.{IsPassed, pass_counted, pass_more, pass_none}
use Rattle.run_output.proofs.passing.pass_records.Goals as goal

pub records-init : goal.records-init
records-init g c =
    let round = c.args.round.now in
    let p = c.reserve.new.self in
    let roomy = c.in_ok-reserve.ensures in
    record {
      inside = omega arith;
      number = omega arith;
      begun = pass_none round c.args.judge.now c.args.limit.now p
          (is_empty round.written p (roomy.packets ∙ c.clear.ensures.packets) (roomy.lines ∙ c.clear.ensures.lines) (roomy.counted ∙ c.clear.ensures.counted));
      read = read_none c.args.judge.now;
    }

pub render_record-requires-clause-few : goal.render_record-requires-clause-few
render_record-requires-clause-few g c =
    let round = c.args.round.now in
    let so_far = pass_counted round c.records.i c.args.judge.now c.records.judge c.args.limit.now c.records.limit c.records.part
    c.records.invariant.begun c.records.invariant.inside in
    omega (arith, so_far.records, c.records-test.true, c.len-in-records.ensures, round.few)

pub records-preserved : goal.records-preserved
records-preserved g c =
    let round = c.args.round.now in
    let i : ℕ = c.records.i in
    let u = c.records.judge in
    let t = c.judge.new.self in
    let o : Outcome = c.judge.new.outcome in
    let l : Bool = c.is_limited-limited.result in
    let item = seen c.item_into.new.item in
    let inside : i < length round.records.now = omega (arith, c.records-test.true, c.len-in-records.ensures) in
    let entry = entry_there round.items.now i (omega (arith, round.same, inside)) in
    let r : Rec = records.seen c.get-record.result in
    let judged : HasJudgedOne (round.start + i) item u t o = subst (λ (n : ℕ). HasJudgedOne n item u t o) (c.get-at.ensures ∙ c.records.invariant.number) c.judge.ensures in
    let more : IsMore round.written (cell_of (round.start + i) r entry.0 o l) c.records.part c.render_record.new.part =
    subst (λ (n : ℕ). IsMore round.written (cell_of n r entry.0 o l) c.records.part c.render_record.new.part) c.records.invariant.number
    (c.in_ok-render_record.ensures.more entry.0 entry.1) in
    let passed : IsPassed round i u t c.records.limit c.is_limited-limited.new.limit c.records.part c.render_record.new.part o l =
    record {
      rec = r;
      entry = entry.0;
      item = item;
      its_rec = c.get-record.ensures;
      its_entry = entry.1;
      its_item = c.item_into.ensures;
      judged = judged;
      more = more;
      within = c.in_ok-render_record.ensures.within;
      asked = c.is_limited-limited.ensures.error;
      unasked = c.is_limited-limited.ensures.same;
      passes = c.is_limited-limited.ensures.none;
      rate = c.is_limited-limited.ensures.rate;
    } in
    record {
      inside = omega (arith, inside);
      number = omega (arith, c.rise.ensures, c.records.invariant.number);
      begun = pass_more round i c.args.judge.now u t c.args.limit.now c.records.limit c.is_limited-limited.new.limit c.records.part
          c.render_record.new.part o l c.records.invariant.begun passed;
      read = read_on c.args.judge.now u t c.records.invariant.read judged.read;
    }
