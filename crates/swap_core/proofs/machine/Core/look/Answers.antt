use Rattle.std.proofs.Common.{◌≡◌, ◌<◌, length, refl, ap, ◌∙◌, arith}
use Rattle.swap_core.specs.Transitions.{look}
use Rattle.swap_core.specs.Views.{state_of}
use Rattle.swap_core.specs.declared.actors.Actor.{Actor}
use Rattle.swap_core.specs.declared.actors.ActorState.TheVariants.{Idle}
use Rattle.swap_core.specs.declared.steps.Took.TheVariants.{Yes}
use Rattle.swap_core.proofs.Answering.{stranger, stays, acts, same_read, look_else}
use Rattle.aftr_base.proofs.PlaceLemmas.{at_index}
use Rattle.swap_core.proofs.Moves.{looks_sound}
use Rattle.swap_core.proofs.machine.Core.look.Goals as goal

pub returns-then-at-len : goal.returns-then-at-len
returns-then-at-len c =
    stranger (λ b. look b c.args.who) (state_of c.self.inside) c.args.self.now c.args.who c.no.result c.self.view_is
    (omega (arith, c.self.inside.actors.ok.0)) c.no.ensures

pub returns-in_default : goal.returns-in_default
returns-in_default c =
    stays (λ b. look b c.args.who) (state_of c.self.inside) c.args.self.now c.args.who c.index.result.now (c.index.result.now.state) _ c.no-in_default.result
    c.self.view_is
    (at_index c.self.inside.actors.items c.args.who c.index.result.now (omega (arith, c.self.inside.actors.ok.0)) c.index.ensures)
    refl (look_else (state_of c.self.inside) c.args.who c.index.result.now c.index.result.now.state c.in_default.not-Idle) c.no-in_default.ensures

pub invariant_of-self : goal.invariant_of-self
invariant_of-self c =
    let below : c.args.who < length c.self.inside.actors.items = omega (arith, c.self.inside.actors.ok.0) in
    let same : c.index_mut.result.now ≡ c.index.result.now =
    same_read c.self.inside.actors.items c.args.who c.index_mut.result.now c.index.result.now below c.index_mut.ensures.value c.index.ensures in
    let sound = looks_sound (state_of c.self.inside) c.args.who c.index_mut.result.now c.self.invariant.0
    (at_index c.self.inside.actors.items c.args.who c.index_mut.result.now below c.index_mut.ensures.value)
    (ap (λ (x : Actor). x.state) same ∙ c.in-Idle.is) in
    (sound, c.self.invariant.1)

pub returns : goal.returns
returns c =
    let below : c.args.who < length c.self.inside.actors.items = omega (arith, c.self.inside.actors.ok.0) in
    let same : c.index_mut.result.now ≡ c.index.result.now =
    same_read c.self.inside.actors.items c.args.who c.index_mut.result.now c.index.result.now below c.index_mut.ensures.value c.index.ensures in
    acts (λ b. look b c.args.who) (state_of c.self.inside) c.args.self.now c.args.who c.index_mut.result.now Idle c.yes.result _ c.self.view_is
    (at_index c.self.inside.actors.items c.args.who c.index_mut.result.now below c.index_mut.ensures.value)
    (ap (λ (x : Actor). x.state) same ∙ c.in-Idle.is) (c.yes.ensures ∙ ap Yes c.from.ensures, refl)
