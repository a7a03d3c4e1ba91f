use Rattle.std.proofs.Common.{◌≡◌, ◌+◌, ◌<◌, ℕ, List, [], ◌∷◌, ◌++◌, length, refl, ap, subst, ◌∙◌, sym, arith}
use Rattle.swap_core.specs.Plans.{limit}
use Rattle.swap_core.specs.Sound.{Sound}
use Rattle.swap_core.specs.States.{with_actor, drawn}
use lib.ListN.{get_elem?}
use Rattle.swap_core.specs.Transitions.{IsAnswer, by_actor, draw}
use Rattle.swap_core.specs.Views.{state_of}
use Rattle.swap_core.specs.declared.actors.Actor.{Actor}
use Rattle.swap_core.specs.declared.actors.ActorState.TheVariants.{Holds}
use Rattle.swap_core.specs.declared.steps.Took.TheVariants.{Yes}
use Rattle.swap_core.proofs.Answering.{stranger, stays, acts, same_read, taken, draw_else, draw_moved, draw_hold, draw_next}
use Rattle.aftr_base.proofs.PlaceLemmas.{at_index}
use Rattle.swap_core.proofs.Drawing.{draws_sound}
use Rattle.swap_core.proofs.machine.Core.draw.Goals as goal

pub returns-then-at-len-clause-answer : goal.returns-then-at-len-clause-answer
returns-then-at-len-clause-answer c =
    stranger (λ b. draw b c.args.who) (state_of c.self.inside) c.args.self.now c.args.who c.no.result c.self.view_is
    (omega (arith, c.self.inside.actors.ok.0)) c.no.ensures

pub returns-in_default : goal.returns-in_default
returns-in_default c =
    record {
      answer =
          stays (λ b. draw b c.args.who) (state_of c.self.inside) c.args.self.now c.args.who c.index.result.now (c.index.result.now.state) _ c.no-in_default.result
          c.self.view_is
          (at_index c.self.inside.actors.items c.args.who c.index.result.now (omega (arith, c.self.inside.actors.ok.0)) c.index.ensures)
          refl (draw_else (state_of c.self.inside) c.args.who c.index.result.now c.index.result.now.state c.in_default.not-Holds) c.no-in_default.ensures;
      unchanged = tt;
    }

pub returns-then-in_force-version-clause-answer : goal.returns-then-in_force-version-clause-answer
returns-then-in_force-version-clause-answer c =
    stays (λ b. draw b c.args.who) (state_of c.self.inside) c.args.self.now c.args.who c.index.result.now (Holds c.in-Holds.field-0 c.in-Holds.version) _ c.no-then-in_force-version.result
    c.self.view_is
    (at_index c.self.inside.actors.items c.args.who c.index.result.now (omega (arith, c.self.inside.actors.ok.0)) c.index.ensures)
    c.in-Holds.is (draw_moved (state_of c.self.inside) c.args.who c.index.result.now c.in-Holds.field-0 c.in-Holds.version c.if-in_force-version.true) c.no-then-in_force-version.ensures

pub returns-then-number-limit-clause-answer : goal.returns-then-number-limit-clause-answer
returns-then-number-limit-clause-answer c =
    stays (λ b. draw b c.args.who) (state_of c.self.inside) c.args.self.now c.args.who c.index.result.now (Holds c.in-Holds.field-0 c.in-Holds.version) _ c.no-then-number-limit.result
    c.self.view_is
    (at_index c.self.inside.actors.items c.args.who c.index.result.now (omega (arith, c.self.inside.actors.ok.0)) c.index.ensures)
    c.in-Holds.is (draw_hold (state_of c.self.inside) c.args.who c.index.result.now c.in-Holds.field-0 c.in-Holds.version c.if-in_force-version.false
    (c.if-number-limit.true ∙ c.limit-limit.ensures ∙ ap (λ (v : ℕ). limit c.self.inside.plan v) (sym c.if-in_force-version.false))) c.no-then-number-limit.ensures

pub invariant_of-self-2 : goal.invariant_of-self-2
invariant_of-self-2 c =
    let below : c.args.who < length c.self.inside.actors.items = omega (arith, c.self.inside.actors.ok.0) in
    let at_limit : c.limit-limit.result ≡ limit c.self.inside.plan c.self.inside.version =
    c.limit-limit.ensures ∙ ap (λ (v : ℕ). limit c.self.inside.plan v) (sym c.if-in_force-version.false) in
    let room : c.self.inside.records < limit c.self.inside.plan c.self.inside.version =
    omega (arith, c.self.invariant.0.within, c.if-number-limit.false) in
    let h : Sound (drawn (state_of c.self.inside) c.args.who c.index_mut.result.now) =
    draws_sound (state_of c.self.inside) c.args.who c.index_mut.result.now c.self.invariant.0
    (at_index c.self.inside.actors.items c.args.who c.index_mut.result.now below c.index_mut.ensures.value) room in
    let P : List (ℕ × ℕ) → Type 0 = λ ds. Sound (record (with_actor (state_of c.self.inside) c.args.who
    (record { state = c.index_mut.result.now.state; draws = ds })) { records = c.self.inside.records + 1 }) in
    let pushed : c.push.new.self ≡ c.index_mut.result.now.draws ++ (c.self.inside.records, c.self.inside.version) ∷ [] =
    c.in_ok-push.ensures ∙ ap (λ (v : ℕ). c.index_mut.result.now.draws ++ (c.self.inside.records, v) ∷ []) (sym c.if-in_force-version.false) in
    (subst P (sym pushed) h, c.self.invariant.1)

pub returns-clause-answer : goal.returns-clause-answer
returns-clause-answer c =
    let below : c.args.who < length c.self.inside.actors.items = omega (arith, c.self.inside.actors.ok.0) in
    let same : c.index_mut.result.now ≡ c.index.result.now =
    same_read c.self.inside.actors.items c.args.who c.index_mut.result.now c.index.result.now below c.index_mut.ensures.value c.index.ensures in
    let at_limit : c.limit-limit.result ≡ limit c.self.inside.plan c.self.inside.version =
    c.limit-limit.ensures ∙ ap (λ (v : ℕ). limit c.self.inside.plan v) (sym c.if-in_force-version.false) in
    let pushed : c.push.new.self ≡ c.index_mut.result.now.draws ++ (c.self.inside.records, c.self.inside.version) ∷ [] =
    c.in_ok-push.ensures ∙ ap (λ (v : ℕ). c.index_mut.result.now.draws ++ (c.self.inside.records, v) ∷ []) (sym c.if-in_force-version.false) in
    let P : List (ℕ × ℕ) → Type 0 = λ ds. IsAnswer (by_actor c.args.self.now (get_elem? c.args.self.now.actors c.args.who) (draw c.args.self.now c.args.who))
    c.yes.result (record (with_actor (state_of c.self.inside) c.args.who
    (record { state = c.index_mut.result.now.state; draws = ds })) { records = c.self.inside.records + 1 }) in
    subst P (sym pushed)
    (acts (λ b. draw b c.args.who) (state_of c.self.inside) c.args.self.now c.args.who c.index_mut.result.now (Holds c.in-Holds.field-0 c.in-Holds.version) c.yes.result _ c.self.view_is
    (at_index c.self.inside.actors.items c.args.who c.index_mut.result.now below c.index_mut.ensures.value)
    (ap (λ (x : Actor). x.state) same ∙ c.in-Holds.is)
    (taken (drawn (state_of c.self.inside) c.args.who c.index_mut.result.now)
    (draw (state_of c.self.inside) c.args.who c.index_mut.result.now (Holds c.in-Holds.field-0 c.in-Holds.version)) c.self.inside.records c.yes.result
    (draw_next (state_of c.self.inside) c.args.who c.index_mut.result.now c.in-Holds.field-0 c.in-Holds.version c.if-in_force-version.false
    (λ e. c.if-number-limit.false (e ∙ sym at_limit)))
    (c.yes.ensures ∙ ap Yes c.from.ensures)))
