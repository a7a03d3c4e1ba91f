use Rattle.std.proofs.Common.{sym, ◌∙◌, arith}
use Rattle.binding_rules.proofs.Links.{read_is}
use Rattle.binding_rules.proofs.Firsts.{sound_more}
use Rattle.binding_rules.proofs.places.places_refusal.Goals as goal

pub places-preserved : goal.places-preserved
places-preserved c =
    sound_more c.args.own.0 c.args.bindings.now c.places.place _ c.binding_refusal-refusal.result (read_is _ c.places.place c.places-test.true)
    (sym c.is_some.ensures ∙ c.if-is_some.false) c.binding_refusal-refusal.ensures.sound c.places.invariant

pub returns-clause-sound : goal.returns-clause-sound
returns-clause-sound c = λ n x l e. c.places.invariant n x (omega (arith, l, c.places-test.false)) e
