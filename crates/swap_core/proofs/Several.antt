-- Several draws in a row by one actor.
use Rattle.std.proofs.Common.{◌≡◌, ℕ, zero, suc, ◌+◌, ◌<◌, ◌≤◌, List, [], ◌∷◌, ◌++◌, length, replicate, set, subst, sym, refl, ap, ◌∙◌, arith, length-set, get_or-set_same, append_assoc}
use mathlib.Core.Option as maybe
use Rattle.std.proofs.lemmas.List.{append-nil, set-set, set-get_or}
use Rattle.swap_core.specs.Plans.{limit}
use Rattle.swap_core.specs.States.{CoreState, IsActor, consecutive, drawn, several_drawn, with_draw}
use Rattle.swap_core.specs.Transitions.{Outcome, after, after_all, by_actor, draw, yes}
use Rattle.swap_core.specs.Sound.{Sound}
use Rattle.swap_core.specs.declared.actors.Actor.{Actor}
use Rattle.swap_core.specs.declared.actors.ActorState.{ActorState}
use Rattle.swap_core.specs.declared.actors.ActorState.TheVariants.{Holds}
use Rattle.swap_core.specs.declared.steps.Step.TheVariants as step
use Rattle.aftr_base.proofs.PlaceLemmas.{at_there, at_read, at_index}
use Rattle.swap_core.proofs.Answering.{draw_next}
use Rattle.swap_core.proofs.Kept.{run_kept}

-- an actor with these draws more
abbrev with_draws : Actor → List (ℕ × ℕ) → Actor
with_draws x news = record { state = x.state; draws = x.draws ++ news }

-- no draw changes nothing
none_drawn : (c : CoreState) (who : ℕ) (x : Actor) → IsActor c who x → c ≡ several_drawn c who x 0
none_drawn c who x at =
    let same : with_draws x [] ≡ x = λ i. record { state = x.state; draws = append-nil x.draws i } in
    let actors : c.actors ≡ set c.actors who (with_draws x []) =
    sym (set-get_or c.actors who x) ∙ ap (λ (y : Actor). set c.actors who y) (at_read c.actors who x x at)
    ∙ ap (λ (y : Actor). set c.actors who y) (sym same) in
    let records : c.records ≡ c.records + 0 = omega arith in
    λ i. record c { actors = actors i; records = records i }

-- one draw and the others behind it
one_before : (c : CoreState) (who n : ℕ) (x : Actor) → several_drawn (drawn c who x) who (with_draw c x) n ≡ several_drawn c who x (suc n)
one_before c who n x =
    let draws : (x.draws ++ (c.records, c.version) ∷ []) ++ consecutive (c.records + 1) n c.version ≡ x.draws ++ consecutive c.records (suc n) c.version =
    append_assoc x.draws ((c.records, c.version) ∷ []) (consecutive (c.records + 1) n c.version) in
    let actors : set (set c.actors who (with_draw c x)) who (with_draws (with_draw c x) (consecutive (c.records + 1) n c.version)) ≡ set c.actors who (with_draws (with_draw c x) (consecutive (c.records + 1) n c.version)) =
    set-set c.actors who (with_draw c x) (with_draws (with_draw c x) (consecutive (c.records + 1) n c.version)) in
    let all : set (set c.actors who (with_draw c x)) who (with_draws (with_draw c x) (consecutive (c.records + 1) n c.version)) ≡ set c.actors who (with_draws x (consecutive c.records (suc n) c.version)) =
    actors ∙ ap (λ (l : List (ℕ × ℕ)). let y : Actor = record { state = x.state; draws = l } in set c.actors who y) draws in
    let records : c.records + 1 + n ≡ c.records + suc n = omega arith in
    λ i. record c { actors = all i; records = records i }

-- the step is taken
drawn_now : (c : CoreState) (who a : ℕ) (x : Actor) → IsActor c who x → x.state ≡ Holds a c.version
    → c.records < limit c.plan c.version → after c (step.Draw who) ≡ yes (drawn c who x) c.records
drawn_now c who a x at holds room =
    ap (λ (o : maybe.Option Actor). by_actor c o (draw c who)) at ∙ ap (λ (s : ActorState). draw c who x s) holds
    ∙ draw_next c who x a c.version refl (λ e. absurd (omega arith))

pub several_steps : (c : CoreState) (who count a : ℕ) (x : Actor) → IsActor c who x → x.state ≡ Holds a c.version
    → c.records + count ≤ limit c.plan c.version
    → after_all c (replicate count (step.Draw who)) ≡ several_drawn c who x count
several_steps c who zero a x at holds room = none_drawn c who x at
several_steps c who (suc n) a x at holds room =
    let first : (after c (step.Draw who)).core ≡ drawn c who x = ap (λ (o : Outcome). o.core) (drawn_now c who a x at holds (omega arith)) in
    let there : who < length c.actors = at_there c.actors who x at in
    let still : IsActor (drawn c who x) who (with_draw c x) =
    at_index (set c.actors who (with_draw c x)) who (with_draw c x) (omega (arith, length-set c.actors who (with_draw c x)))
    (sym (get_or-set_same c.actors who (with_draw c x) (with_draw c x) there)) in
    ap (λ (d : CoreState). after_all d (replicate n (step.Draw who))) first
    ∙ several_steps (drawn c who x) who n a (with_draw c x) still holds (omega arith)
    ∙ one_before c who n x

pub several_sound : (c : CoreState) (who count a : ℕ) (x : Actor) → Sound c → IsActor c who x → x.state ≡ Holds a c.version
    → c.records + count ≤ limit c.plan c.version → Sound (several_drawn c who x count)
several_sound c who count a x h at holds room =
    subst Sound (several_steps c who count a x at holds room) (run_kept c (replicate count (step.Draw who)) h)
