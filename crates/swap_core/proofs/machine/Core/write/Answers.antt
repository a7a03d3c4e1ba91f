use Rattle.std.proofs.Common.{◌≡◌, ◌+◌, ◌%◌, ◌<◌, ℕ, List, [], length, get_or, set, slice_index, ap, ap₂, subst, sym, ◌∙◌, arith}
use Rattle.std.proofs.lemmas.List.{get_or_default}
use Rattle.swap_core.specs.Sound.{Sound}
use Rattle.swap_core.specs.States.{area, spare, next_table}
use Rattle.swap_core.specs.Views.{state_of}
use Rattle.swap_core.specs.declared.actors.DeskState.TheVariants.{Writing}
use Rattle.swap_core.proofs.DeskMoves.{write_sound}
use Rattle.swap_core.proofs.PlanLemmas.{table_fits}
use Rattle.swap_core.proofs.machine.Core.write.Goals as goal

pub set-requires : goal.set-requires
set-requires c =
    let inside : (c.self.inside.version + 1) % 2 < length c.self.inside.areas = omega (arith, c.self.invariant.0.two_areas) in
    let same : get_or c.self.inside.areas ((c.self.inside.version + 1) % 2) c.index-self-spare.result ≡ area (state_of c.self.inside) (spare (state_of c.self.inside)) =
    get_or_default c.self.inside.areas ((c.self.inside.version + 1) % 2) c.index-self-spare.result [] inside in
    omega (
      arith,
      table_fits c.self.inside.plan (c.self.inside.version + 1),
      ap (λ (ws : List ℕ). length ws) same,
      ap (λ (ws : List ℕ). length ws) c.words-words.ensures,
      c.if-place-words.false,
      c.self.invariant.0.rows ((c.self.inside.version + 1) % 2) (omega arith),
    )

pub invariant_of-self : goal.invariant_of-self
invariant_of-self c =
    let inside : (c.self.inside.version + 1) % 2 < length c.self.inside.areas = omega (arith, c.self.invariant.0.two_areas) in
    let same : get_or c.self.inside.areas ((c.self.inside.version + 1) % 2) c.index-self-spare.result ≡ area (state_of c.self.inside) (spare (state_of c.self.inside)) =
    get_or_default c.self.inside.areas ((c.self.inside.version + 1) % 2) c.index-self-spare.result [] inside in
    let row : c.set.new.self ≡ set (area (state_of c.self.inside) (spare (state_of c.self.inside))) c.in-Writing.place (slice_index (next_table (state_of c.self.inside)) c.in-Writing.place) =
    c.set.ensures ∙ ap₂ (λ (r ws : List ℕ). set r c.in-Writing.place (slice_index ws c.in-Writing.place)) same c.words-words.ensures in
    let below : c.in-Writing.place < length (next_table (state_of c.self.inside)) =
    omega (arith, ap (λ (ws : List ℕ). length ws) c.words-words.ensures, c.if-place-words.false) in
    let P : List ℕ → Type 0 = λ r. Sound (record (state_of c.self.inside) {
      areas = set c.self.inside.areas (spare (state_of c.self.inside)) r;
      desk = Writing (c.in-Writing.place + 1);
    }) in
    (subst P (sym row) (write_sound (state_of c.self.inside) c.in-Writing.place c.self.invariant.0 c.in-Writing.is below), c.self.invariant.1)
