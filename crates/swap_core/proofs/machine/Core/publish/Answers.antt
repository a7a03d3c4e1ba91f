use Rattle.std.proofs.Common.{◌+◌, ◌≤◌, ℕ, List, length, ap, subst, sym, arith}
use Rattle.swap_core.specs.Sound.{Sound, IsAtWork}
use Rattle.swap_core.specs.States.{next_table}
use Rattle.swap_core.specs.Views.{state_of}
use Rattle.swap_core.specs.declared.actors.DeskState.TheVariants.{Resting}
use Rattle.swap_core.proofs.DeskMoves.{publish_sound}
use Rattle.swap_core.proofs.machine.Core.publish.Goals as goal

pub push_reserved-requires : goal.push_reserved-requires
push_reserved-requires c =
    let at_work : IsAtWork c.self.inside.desk = subst IsAtWork (sym c.in-Writing.is) tt in
    omega (arith, c.self.invariant.0.pointed, (c.self.invariant.0.next at_work).0, c.self.invariant.1)

pub invariant_of-self : goal.invariant_of-self
invariant_of-self c =
    let done : length (next_table (state_of c.self.inside)) ≤ c.in-Writing.place =
    omega (arith, ap (λ (ws : List ℕ). length ws) c.words.ensures, c.if-written-words.false) in
    let P : List ℕ → Type 0 = λ ps. Sound (record (state_of c.self.inside) { version = c.self.inside.version + 1; points = ps; desk = Resting }) in
    let sound = subst P (sym c.push_reserved.ensures.items)
    (publish_sound (state_of c.self.inside) c.in-Writing.place c.self.invariant.0 c.in-Writing.is done) in
    (sound, omega (arith, c.push_reserved.ensures.capacity, c.self.invariant.1))
