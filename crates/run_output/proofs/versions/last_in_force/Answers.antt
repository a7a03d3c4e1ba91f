use Rattle.std.proofs.Common.{◌≡◌, ℕ, ◌+◌, ◌-◌, ap, sym, ◌∙◌, subst, arith, Some, slice_get}
use Rattle.std.specs.Prelude.{slice_index_or}
use Rattle.reload_plan.specs.declared.loads.Slot.{Slot}
use Rattle.reload_plan.specs.declared.loads.Slot.TheVariants as slot
use Rattle.run_output.proofs.VersionLemmas.{AreRefused, IsRefused, due_behind, ends_more, none_behind, none_if, none_refused, not_due, refused_more, slot_read, some_if, told_more}
use Rattle.run_output.specs.Versions.{AreTold, EndsInForce, point_of}
use Rattle.run_output.proofs.versions.last_in_force.Goals.{in-Refused, in-Version+else-is_none}
use Rattle.run_output.proofs.versions.last_in_force.Goals as goal

pub returns-then-is_none-clause-none_left : goal.returns-then-is_none-clause-none_left
returns-then-is_none-clause-none_left c =
    due_behind c.args.points.now c.args.slots.now c.slots.last c.slots.at (c.slots.at - c.slots.last) (omega arith) c.slots.invariant.before c.slots.invariant.refused
    (not_due c.args.points.now c.args.slots.now c.slots.at c.in-Version.version
    (slot_read c.args.slots.now c.slots.at (slot.Version 0) c.slots-test.true ∙ ap (λ s. Some s) c.in-Version.is)
    (sym c.point_of.ensures ∙ none_if c.point_of.result c.is_none.result c.is_none.ensures c.if-is_none.true))

pub slots-preserved : goal.slots-preserved
slots-preserved c =
    let s : Slot = slice_index_or c.args.slots.now c.slots.at (slot.Version 0) in
    let there : slice_get c.args.slots.now c.slots.at ≡ Some s = slot_read c.args.slots.now c.slots.at (slot.Version 0) c.slots-test.true in
    elim c.match-slots-at.branch [
      | in-Refused w ↦
          let refused : IsRefused s = subst IsRefused (sym w.in-Refused.is) tt in
          record {
            after = omega (arith, w.last-is, c.slots.invariant.after);
            inside = omega (arith, w.last-is, c.slots.invariant.inside);
            before = omega arith;
            refused = subst (λ (k : ℕ). AreRefused c.args.slots.now k (c.slots.at + 1)) (sym w.last-is) (refused_more c.args.slots.now c.slots.last c.slots.at s there refused c.slots.invariant.refused);
            ends = subst (EndsInForce c.args.points.now c.args.slots.now c.args.printed) (sym w.last-is) c.slots.invariant.ends;
            told = subst (AreTold c.args.points.now c.args.slots.now c.args.printed) (sym w.last-is) c.slots.invariant.told;
          }
      | in-Version+else-is_none w ↦
          let version : ℕ = w.in-Version.version in
          let some : (point : ℕ) × (w.point_of.result ≡ Some point) = some_if w.point_of.result w.is_none.result w.is_none.ensures w.if-is_none.false in
          let point : (point : ℕ) × (point_of c.args.points.now version ≡ Some point) = (some.0, sym w.point_of.ensures ∙ some.1) in
          let is : slice_get c.args.slots.now c.slots.at ≡ Some (slot.Version version) = there ∙ ap (λ t. Some t) w.in-Version.is in
          record {
            after = omega (arith, w.last-is, c.slots.invariant.after, c.slots.invariant.inside);
            inside = omega (arith, w.last-is);
            before = omega arith;
            refused = subst (λ (k : ℕ). AreRefused c.args.slots.now k (c.slots.at + 1)) (sym w.last-is) (none_refused c.args.slots.now (c.slots.at + 1));
            ends = subst (EndsInForce c.args.points.now c.args.slots.now c.args.printed) (sym w.last-is)
                (ends_more c.args.points.now c.args.slots.now c.args.printed c.slots.last c.slots.at version c.slots.invariant.after c.slots.invariant.inside is point);
            told = subst (AreTold c.args.points.now c.args.slots.now c.args.printed) (sym w.last-is)
                (told_more c.args.points.now c.args.slots.now c.args.printed c.slots.last c.slots.at version is point c.slots.invariant.told c.slots.invariant.refused);
          }
    ]

pub returns-clause-none_left : goal.returns-clause-none_left
returns-clause-none_left c =
    due_behind c.args.points.now c.args.slots.now c.slots.last c.slots.at (c.slots.at - c.slots.last) (omega arith) c.slots.invariant.before c.slots.invariant.refused
    (none_behind c.args.points.now c.args.slots.now c.slots.at (omega arith))
