-- Each step of the machine, and each run of it, leaves a sound state sound.
use Rattle.std.proofs.Common.{◌≡◌, ℕ, ◌+◌, ◌%◌, ◌<◌, Bool, true, false, eqb, ltb, if◌then◌else◌, List, [], ◌∷◌, length, refl, sym, subst, inl, inr, arith, eqb-true, ltb-true, ltb-false}
use mathlib.Core.Option as maybe
use Rattle.std.proofs.lemmas.Bool.{eqb-false}
use lib.ListN.{get_elem?}
use Rattle.swap_core.specs.Plans.{Tables, IsPlan, limit, window}
use Rattle.swap_core.specs.States.{CoreState, IsActor, count_of, spare, next_table, opening}
use Rattle.swap_core.specs.Transitions.{Outcome, after, after_all, by_actor, look, enter, confirm, read, draw, leave, due, due_now, count, write, publish}
use Rattle.swap_core.specs.Sound.{Sound, IsWriting}
use Rattle.swap_core.specs.declared.actors.Actor.{Actor}
use Rattle.swap_core.specs.declared.actors.ActorState.{ActorState}
use Rattle.swap_core.specs.declared.actors.ActorState.TheVariants.{Idle, Looked, Asks, Holds}
use Rattle.swap_core.specs.declared.actors.DeskState.{DeskState}
use Rattle.swap_core.specs.declared.actors.DeskState.TheVariants.{Resting, Ready, Writing}
use Rattle.swap_core.specs.declared.steps.Step.{Step}
use Rattle.swap_core.specs.declared.steps.Step.TheVariants as step
use Rattle.swap_core.proofs.Begun.{opening_sound}
use Rattle.swap_core.proofs.Moves.{looks_sound, enters_sound, confirms_sound, leaves_sound}
use Rattle.swap_core.proofs.Drawing.{draws_sound}
use Rattle.swap_core.proofs.DeskMoves.{due_sound, count_sound, write_sound, publish_sound}

abbrev Fine : Outcome → Type 0
Fine o = Sound o.core

-- both ways of a test
tested : (b : Bool) (m n : Outcome) → (b ≡ true → Fine m) → (b ≡ false → Fine n) → Fine (if b then m else n)
tested true m n on off = on refl
tested false m n on off = off refl

by_actor_sound : (c : CoreState) (o : maybe.Option Actor) (row : Actor → ActorState → Outcome) → Sound c
    → ((x : Actor) → o ≡ maybe.some x → Fine (row x x.state)) → Fine (by_actor c o row)
by_actor_sound c maybe.none row h each = h
by_actor_sound c (maybe.some x) row h each = each x refl

module _ (c : CoreState) (h : Sound c) where
  look_kept : (who : ℕ) (x : Actor) (s : ActorState) → IsActor c who x → x.state ≡ s → Fine (look c who x s)
  look_kept who x Idle at e = looks_sound c who x h at e
  look_kept who x (Looked v) at e = h
  look_kept who x (Asks a) at e = h
  look_kept who x (Holds a w) at e = h

  enter_kept : (who : ℕ) (x : Actor) (s : ActorState) → IsActor c who x → x.state ≡ s → Fine (enter c who x s)
  enter_kept who x Idle at e = h
  enter_kept who x (Looked v) at e = enters_sound c who x v h at e
  enter_kept who x (Asks a) at e = h
  enter_kept who x (Holds a w) at e = h

  confirm_kept : (who : ℕ) (x : Actor) (s : ActorState) → IsActor c who x → x.state ≡ s → Fine (confirm c who x s)
  confirm_kept who x Idle at e = h
  confirm_kept who x (Looked v) at e = h
  confirm_kept who x (Asks a) at e =
      tested (eqb (c.version % 2) a) _ _ (λ t. confirms_sound c who x a h at e (eqb-true _ _ t)) (λ _. h)
  confirm_kept who x (Holds a w) at e = h

  read_kept : (place : ℕ) (s : ActorState) → Fine (read c place s)
  read_kept place Idle = h
  read_kept place (Looked v) = h
  read_kept place (Asks a) = h
  read_kept place (Holds a w) = tested _ _ _ (λ _. h) (λ _. h)

  draw_kept : (who : ℕ) (x : Actor) (s : ActorState) → IsActor c who x → x.state ≡ s → Fine (draw c who x s)
  draw_kept who x Idle at e = h
  draw_kept who x (Looked v) at e = h
  draw_kept who x (Asks a) at e = h
  draw_kept who x (Holds a w) at e =
      tested (eqb c.version w) _ _
      (λ _. tested (eqb c.records (limit c.plan c.version)) _ _ (λ _. h)
      (λ t. draws_sound c who x h at (below t))) (λ _. h)
    where
      below : eqb c.records (limit c.plan c.version) ≡ false → c.records < limit c.plan c.version
      below t = omega (arith, h.within, eqb-false _ _ t)

  leave_kept : (who : ℕ) (x : Actor) (s : ActorState) → IsActor c who x → x.state ≡ s → Fine (leave c who x s)
  leave_kept who x Idle at e = h
  leave_kept who x (Looked v) at e = h
  leave_kept who x (Asks a) at e = leaves_sound c who x a h at (inl e)
  leave_kept who x (Holds a w) at e = leaves_sound c who x a h at (inr (w, e))

  due_now_kept : (IsWriting c.desk → ⊥) → Fine (due_now c)
  due_now_kept still =
      tested (ltb (c.version + 1) (length c.plan.tables)) _ _
      (λ more. tested (ltb c.records (window c.plan (c.version + 1)).earliest) _ _ (λ _. h)
      (λ reached. due_sound c h still (ltb-true _ _ more) (ltb-false _ _ reached))) (λ _. h)

  due_kept : (d : DeskState) → c.desk ≡ d → Fine (due c d)
  due_kept Resting e = due_now_kept (let P : DeskState → Type 0 = λ d. IsWriting d → ⊥ in subst P (sym e) (λ w. w))
  due_kept Ready e = due_now_kept (let P : DeskState → Type 0 = λ d. IsWriting d → ⊥ in subst P (sym e) (λ w. w))
  due_kept (Writing j) e = h

  count_kept : (d : DeskState) → c.desk ≡ d → Fine (count c d)
  count_kept Resting e = h
  count_kept Ready e = tested (eqb (count_of c (spare c)) 0) _ _ (λ t. count_sound c h e (eqb-true _ _ t)) (λ _. h)
  count_kept (Writing j) e = h

  write_kept : (d : DeskState) → c.desk ≡ d → Fine (write c d)
  write_kept Resting e = h
  write_kept Ready e = h
  write_kept (Writing j) e = tested (ltb j (length (next_table c))) _ _ (λ t. write_sound c j h e (ltb-true _ _ t)) (λ _. h)

  publish_kept : (d : DeskState) → c.desk ≡ d → Fine (publish c d)
  publish_kept Resting e = h
  publish_kept Ready e = h
  publish_kept (Writing j) e =
      tested (ltb j (length (next_table c))) _ _ (λ _. h) (λ t. publish_sound c j h e (ltb-false _ _ t))

  pub step_kept : (s : Step) → Fine (after c s)
  step_kept (step.Look who) = by_actor_sound c (get_elem? c.actors who) (look c who) h (λ x at. look_kept who x x.state at refl)
  step_kept (step.Enter who) = by_actor_sound c (get_elem? c.actors who) (enter c who) h (λ x at. enter_kept who x x.state at refl)
  step_kept (step.Confirm who) =
      by_actor_sound c (get_elem? c.actors who) (confirm c who) h (λ x at. confirm_kept who x x.state at refl)
  step_kept (step.Read who place) =
      by_actor_sound c (get_elem? c.actors who) (λ _. read c place) h (λ x at. read_kept place x.state)
  step_kept (step.Draw who) = by_actor_sound c (get_elem? c.actors who) (draw c who) h (λ x at. draw_kept who x x.state at refl)
  step_kept (step.Leave who) = by_actor_sound c (get_elem? c.actors who) (leave c who) h (λ x at. leave_kept who x x.state at refl)
  step_kept step.Due = due_kept c.desk refl
  step_kept step.Count = count_kept c.desk refl
  step_kept step.Write = write_kept c.desk refl
  step_kept step.Publish = publish_kept c.desk refl

pub run_kept : (c : CoreState) (steps : List Step) → Sound c → Sound (after_all c steps)
run_kept c [] h = h
run_kept c (s ∷ steps) h = run_kept (after c s).core steps (step_kept c h s)

pub runs_sound : (plan : Tables) (actors : ℕ) (steps : List Step) → IsPlan plan → Sound (after_all (opening plan actors) steps)
runs_sound plan actors steps h = run_kept (opening plan actors) steps (opening_sound plan actors h)
