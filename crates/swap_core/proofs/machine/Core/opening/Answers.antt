use Rattle.std.proofs.Common.{◌+◌, ◌≤◌, ℕ, List, [], ap, ap₂, subst, sym, ◌∙◌, length, arith}
use Rattle.std.specs.Prelude.{vec_capacity}
use Rattle.swap_core.specs.States.{row_of}
use Rattle.swap_core.specs.Sound.{Sound}
use Rattle.swap_core.proofs.PlanLemmas.{table_fits}
use Rattle.swap_core.proofs.Begun.{opening_sound, opened}
use Rattle.swap_core.proofs.machine.Core.opening.Goals as goal

pub of-requires : goal.of-requires
of-requires c =
    omega (arith, table_fits c.args.plan 0, ap (λ (ws : List ℕ). length ws) c.words.ensures, c.width-size.ensures.value)

pub invariant_of-result : goal.invariant_of-result
invariant_of-result c =
    let sound = subst Sound
    (sym (opened c.args.plan c.args.actors c.in_ok-first.first c.in_ok-second.second c.in_ok-newcomers.field-0.items c.in_ok-points.points.items
    (c.in_ok-first.ensures ∙ ap₂ (λ (n : ℕ) (ws : List ℕ). row_of n ws) c.width-size.ensures.value c.words.ensures)
    (c.in_ok-second.ensures ∙ ap (λ (n : ℕ). row_of n []) c.width-size.ensures.value)
    c.in_ok-newcomers.ensures c.in_ok-points.ensures.items))
    (opening_sound c.args.plan c.args.actors c.len.ensures.rules) in
    let room : length c.args.plan.tables ≤ vec_capacity c.in_ok-points.points + 1 = omega (arith, c.in_ok-points.ensures.capacity, c.len.ensures.value) in
    (sound, room)

pub returns : goal.returns
returns c =
    opened c.args.plan c.args.actors c.in_ok-first.first c.in_ok-second.second c.in_ok-newcomers.field-0.items c.in_ok-points.points.items
    (c.in_ok-first.ensures ∙ ap₂ (λ (n : ℕ) (ws : List ℕ). row_of n ws) c.width-size.ensures.value c.words.ensures)
    (c.in_ok-second.ensures ∙ ap (λ (n : ℕ). row_of n []) c.width-size.ensures.value)
    c.in_ok-newcomers.ensures c.in_ok-points.ensures.items
