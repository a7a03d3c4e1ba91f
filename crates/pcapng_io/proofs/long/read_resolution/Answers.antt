-- The options that are there, and then those behind them, or the block's end.
use Rattle.std.proofs.Common.{◌≡◌, ◌+◌, ◌-◌, drop, length, Ok, Err, refl, sym, ◌∙◌, ap, arith}
use Rattle.aftr_io.specs.Outside.{Readable}
use Rattle.aftr_io.proofs.OutsideLemmas.{read_well}
use Rattle.pcapng_io.specs.Long.{tail_of}
use Rattle.pcapng_io.proofs.LongLemmas.{walk_cut, walk_more, walk_over, with_begins, with_both, with_first, with_joined, with_more, with_passed, with_three}
use Rattle.pcapng_io.proofs.long.read_resolution.Goals as goal

pub options-init : goal.options-init
options-init g c = record {
  readable = refl;
  ends = omega (arith, c.from.ensures);
  stands = with_begins (g.I.Reading.readable c.args.files.now).held c.args.name.now (c.args.at + 16) c.args.window.now;
  behind = omega arith;
  inside = omega (arith, c.from.ensures, c.requires.least);
  gives = with_first (g.I.Reading.readable c.args.files.now).held c.args.name.now c.args.frame c.args.at c.args.window.now c.requires.least;
}

pub returns-in-Over-clause-told : goal.returns-in-Over-clause-told
returns-in-Over-clause-told g c =
    let held = (g.I.Reading.readable c.args.files.now).held in
    let name = c.args.name.now in
    let at = c.args.at in
    let frame = c.args.frame in
    let first = c.args.window.now in
    let end = with_joined (λ all. tail_of frame (drop at all) at ≡ Ok c.in_ok-read_end-in-Over.field-0) held (g.I.Reading.readable c.options.files).held name (at + 16) first c.options.here c.options.window
    (ap (λ (o : Readable). o.held) c.options.invariant.readable) c.options.invariant.stands c.in_ok-read_end-in-Over.ensures.told in
    with_three held name (at + 16) first
    (λ all s gives e. walk_over all frame at c.options.here c.options.place (at + c.from.result - 4 - c.options.here) c.options.found c.options.window c.as_slice.result.now c.as_slice.ensures
    (omega (arith, c.options.invariant.behind)) (omega (arith, c.from.ensures)) (omega (arith, c.options.invariant.inside, c.from.ensures)) s gives (Ok c.in-Over.found) c.in_ok-read_end-in-Over.field-0 (omega (arith, c.requires.least))
    c.in-Over.ensures.says e)
    c.options.invariant.stands c.options.invariant.gives end

pub returns-in-Bad-clause-told : goal.returns-in-Bad-clause-told
returns-in-Bad-clause-told g c =
    let held = (g.I.Reading.readable c.args.files.now).held in
    let name = c.args.name.now in
    let at = c.args.at in
    let frame = c.args.frame in
    let first = c.args.window.now in
    let end = with_joined (λ all. tail_of frame (drop at all) at ≡ Ok c.in_ok-read_end-in-Bad.field-0) held (g.I.Reading.readable c.options.files).held name (at + 16) first c.options.here c.options.window
    (ap (λ (o : Readable). o.held) c.options.invariant.readable) c.options.invariant.stands c.in_ok-read_end-in-Bad.ensures.told in
    with_three held name (at + 16) first
    (λ all s gives e. walk_over all frame at c.options.here c.options.place (at + c.from.result - 4 - c.options.here) c.options.found c.options.window c.as_slice.result.now c.as_slice.ensures
    (omega (arith, c.options.invariant.behind)) (omega (arith, c.from.ensures)) (omega (arith, c.options.invariant.inside, c.from.ensures)) s gives (Err c.in-Bad.refusal) c.in_ok-read_end-in-Bad.field-0 (omega (arith, c.requires.least))
    c.in-Bad.ensures.says e)
    c.options.invariant.stands c.options.invariant.gives end

pub returns-then-is_last-clause-told : goal.returns-then-is_last-clause-told
returns-then-is_last-clause-told g c =
    let held = (g.I.Reading.readable c.args.files.now).held in
    let at = c.args.at in
    with_both held c.args.name.now (at + 16) c.args.window.now
    (λ all s gives. walk_cut all c.args.frame at c.options.here c.options.place (at + c.from.result - 4 - c.options.here) c.options.found c.options.window c.as_slice.result.now c.as_slice.ensures
    (omega (arith, c.options.invariant.behind)) (omega (arith, c.from.ensures)) (omega (arith, c.options.invariant.inside, c.from.ensures)) s gives (sym c.is_last.ensures ∙ c.if-is_last.true) c.in-More.ensures.stops.2)
    c.options.invariant.stands c.options.invariant.gives

pub options-preserved : goal.options-preserved
options-preserved g c =
    let held = (g.I.Reading.readable c.args.files.now).held in
    let name = c.args.name.now in
    let at = c.args.at in
    let first = c.args.window.now in
    let here = c.options.here + c.min-count.result in
    let passed = with_passed held name (at + 16) first c.options.here c.options.window c.options.invariant.stands c.pass.new.self c.min-count.result here
    (omega (arith, c.min-count.ensures, ap length c.as_slice-in-More.ensures)) c.pass.ensures.bytes c.pass.ensures.last refl in
    record {
      readable = read_well name _ _ _ c.in_ok-read_more-in-More.ensures.reads ∙ c.options.invariant.readable;
      ends = omega (arith, c.from.ensures);
      stands = with_more held name (at + 16) first here c.pass.new.self passed (g.I.Reading.readable c.options.files).held c.read_more.new.self
          (ap (λ (o : Readable). o.held) c.options.invariant.readable) c.in_ok-read_more-in-More.ensures.told;
      behind = omega (arith, c.options.invariant.behind);
      inside = omega (arith, c.min-count.ensures, c.in-More.ensures.stops.1);
      gives = with_both held name (at + 16) first
          (λ all s gives. walk_more all c.args.frame at c.options.here c.options.place (at + c.from.result - 4 - c.options.here) c.options.found c.options.window c.as_slice.result.now c.as_slice.ensures
          (omega (arith, c.options.invariant.behind)) (omega (arith, c.from.ensures)) (omega (arith, c.options.invariant.inside, c.from.ensures)) s gives c.in-More.next c.min-count.result c.in-More.now
          (omega (arith, c.min-count.ensures)) c.in-More.ensures.says)
          c.options.invariant.stands c.options.invariant.gives;
    }
