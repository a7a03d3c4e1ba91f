use Rattle.std.proofs.Common.{◌≡◌, ◌∙◌, ◌∷◌, ◌++◌, [], Some, ap, arith, length, map}
use Rattle.item_stage.specs.Marks.{Kept, slot_mark}
use Rattle.item_stage.proofs.SlotLemmas.{marked_last}
use Rattle.item_stage.proofs.marks.Marks.push.Goals as goal

pub returns-clause-slots : goal.returns-clause-slots
returns-clause-slots c =
    let inside = c.self.inside in
    let place : c.len-place.result ≡ length inside.list.items = omega (arith, c.len-place.ensures, inside.list.ok) in
    (λ i. map (slot_mark (c.in_ok-push.ensures.items i)) (c.push_reserved-2.ensures.items i))
    ∙ (marked_last inside.list.items c.args.mark inside.slots.items c.len-place.result place c.self.invariant.0
    ∙ ap (λ (k : Kept). k.slots ++ Some c.args.mark ∷ []) c.self.view_is)
