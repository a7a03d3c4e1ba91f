-- The bytes in front are let go, and then those that are there are the last four, or nothing stands behind them.
use Rattle.std.proofs.Common.{◌+◌, length, refl, ◌∙◌, ap, arith}
use Rattle.aftr_io.specs.Outside.{Readable}
use Rattle.aftr_io.proofs.OutsideLemmas.{read_well}
use Rattle.pcapng_io.proofs.LongLemmas.{all_passed, at_end, end_there, with_more, with_passed, with_then}
use Rattle.pcapng_io.proofs.long.read_over.Goals as goal

pub returns-then-missing-eq0-clause-told : goal.returns-then-missing-eq0-clause-told
returns-then-missing-eq0-clause-told g c =
    let held = (g.I.Reading.readable c.args.files.now).held in
    let here = c.passing.here + c.passable-count.result in
    let rest = c.pass.new.self in
    let stands = with_passed held c.args.name.now c.args.from c.args.window.now c.passing.here c.passing.window c.passing.invariant.stands rest c.passable-count.result here
    (omega (arith, c.passable-count.ensures.within, ap length c.as_slice.ensures)) c.pass.ensures.bytes c.pass.ensures.last refl in
    with_then held c.args.name.now c.args.from c.args.window.now here rest stands
    (λ all s. end_there all here c.args.end rest (omega (arith, c.passable-count.ensures.few, c.passing.invariant.before))
    (all_passed c.passing.window.bytes c.as_slice.result.now rest.bytes c.passing.here c.args.end c.passable-count.result c.as_slice.ensures c.passable-count.ensures.all c.pass.ensures.bytes)
    (λ e. omega (arith, c.missing_of-missing.ensures.none (omega arith), ap length c.as_slice-in-passing.ensures)) s)

pub returns-then-missing-eq0-clause-stands : goal.returns-then-missing-eq0-clause-stands
returns-then-missing-eq0-clause-stands g c = λ four.
    let held = (g.I.Reading.readable c.args.files.now).held in
    let here = c.passing.here + c.passable-count.result in
    let rest = c.pass.new.self in
    let stands = with_passed held c.args.name.now c.args.from c.args.window.now c.passing.here c.passing.window c.passing.invariant.stands rest c.passable-count.result here
    (omega (arith, c.passable-count.ensures.within, ap length c.as_slice.ensures)) c.pass.ensures.bytes c.pass.ensures.last refl in
    with_then held c.args.name.now c.args.from c.args.window.now here rest stands
    (λ all s. at_end all here c.args.end rest (omega (arith, c.passable-count.ensures.few, c.passing.invariant.before))
    (all_passed c.passing.window.bytes c.as_slice.result.now rest.bytes c.passing.here c.args.end c.passable-count.result c.as_slice.ensures c.passable-count.ensures.all c.pass.ensures.bytes)
    four s)

pub passing-preserved : goal.passing-preserved
passing-preserved g c =
    let held = (g.I.Reading.readable c.args.files.now).held in
    let here = c.passing.here + c.passable-count.result in
    let rest = c.pass.new.self in
    let stands = with_passed held c.args.name.now c.args.from c.args.window.now c.passing.here c.passing.window c.passing.invariant.stands rest c.passable-count.result here
    (omega (arith, c.passable-count.ensures.within, ap length c.as_slice.ensures)) c.pass.ensures.bytes c.pass.ensures.last refl in
    record {
      readable = read_well c.args.name.now _ _ _ c.in_ok-read_more.ensures.reads ∙ c.passing.invariant.readable;
      stands = with_more held c.args.name.now c.args.from c.args.window.now here rest stands (g.I.Reading.readable c.passing.files).held c.read_more.new.self
          (ap (λ (o : Readable). o.held) c.passing.invariant.readable) c.in_ok-read_more.ensures.told;
      behind = omega (arith, c.passing.invariant.behind);
      before = omega (arith, c.passable-count.ensures.few, c.passing.invariant.before);
    }
