-- The bytes behind the packet's go with the options.
use Rattle.std.proofs.Common.{◌≡◌, ◌+◌, ℕ, List, drop, false, Ok, Err, refl, sym, ◌∙◌, ap, arith}
use Rattle.std.proofs.lemmas.List.{take_rest}
use Rattle.std.proofs.lemmas.Result.{err_from_is_err_and}
use Rattle.capture_io.specs.Answers.{Agrees}
use Rattle.capture_io.specs.Windows.{Ahead}
use Rattle.pcapng_io.specs.declared.frame.Frame.{Frame}
use Rattle.pcapng_io.specs.Long.{tail_of}
use Rattle.pcapng_io.proofs.LongLemmas.{agrees_failed, with_joined, with_rest}
use Rattle.pcapng_io.proofs.long.read_options.Goals as goal

abbrev begun : List ℕ → Ahead
begun bytes = record { bytes = bytes; last = false }

pub returns-in_err-frame-clause-told : goal.returns-in_err-frame-clause-told
returns-in_err-frame-clause-told g c =
    let held = (g.I.Reading.readable c.args.files.now).held in
    let name = c.args.name.now in
    let at = c.args.at in
    let e = err_from_is_err_and c.from_residual.result c.from_residual.ensures.1 in
    let stands = with_rest held name at 262172 c.args.window.now c.in-Ok.rest c.args.window.now.bytes refl (omega (arith, c.requires.kept)) (c.in-Ok.ensures ∙ ap begun (sym (take_rest c.args.window.now.bytes 262172))) in
    agrees_failed held name at c.args.window.now (λ all. tail_of c.args.frame (drop at all) at) c.from_residual.result c.in_err-frame.field-0.0 (e.1 ∙ ap Err e.2)
    (with_joined (λ all. Agrees {T = Frame} (Err c.in_err-frame.field-0.0) (tail_of c.args.frame (drop at all) at)) held held name at c.args.window.now (at + 262172) c.in-Ok.rest refl stands c.in_err-frame.ensures.told)

pub returns-clause-told : goal.returns-clause-told
returns-clause-told g c =
    let held = (g.I.Reading.readable c.args.files.now).held in
    let name = c.args.name.now in
    let at = c.args.at in
    let stands = with_rest held name at 262172 c.args.window.now c.in-Ok.rest c.args.window.now.bytes refl (omega (arith, c.requires.kept)) (c.in-Ok.ensures ∙ ap begun (sym (take_rest c.args.window.now.bytes 262172))) in
    with_joined (λ all. tail_of c.args.frame (drop at all) at ≡ Ok c.in_ok-frame.frame) held held name at c.args.window.now (at + 262172) c.in-Ok.rest refl stands c.in_ok-frame.ensures.told
