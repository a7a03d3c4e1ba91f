use Rattle.std.proofs.Common.{◌≡◌, ◌<◌, length, refl, ap, ◌∙◌, arith}
use Rattle.swap_core.specs.States.{confirmed}
use Rattle.swap_core.specs.Transitions.{confirm}
use Rattle.swap_core.specs.Views.{state_of}
use Rattle.swap_core.specs.declared.actors.Actor.{Actor}
use Rattle.swap_core.specs.declared.actors.ActorState.TheVariants.{Asks}
use Rattle.swap_core.specs.declared.steps.Took.TheVariants.{Yes}
use Rattle.swap_core.proofs.Answering.{stranger, stays, acts, same_read, taken, confirm_else, confirm_moved, confirm_held}
use Rattle.aftr_base.proofs.PlaceLemmas.{at_index}
use Rattle.swap_core.proofs.Moves.{confirms_sound}
use Rattle.swap_core.proofs.machine.Core.confirm.Goals as goal

pub returns-then-at-len : goal.returns-then-at-len
returns-then-at-len c =
    stranger (λ b. confirm b c.args.who) (state_of c.self.inside) c.args.self.now c.args.who c.no.result c.self.view_is
    (omega (arith, c.self.inside.actors.ok.0)) c.no.ensures

pub returns-in_default : goal.returns-in_default
returns-in_default c =
    stays (λ b. confirm b c.args.who) (state_of c.self.inside) c.args.self.now c.args.who c.index.result.now (c.index.result.now.state) _ c.no-in_default.result
    c.self.view_is
    (at_index c.self.inside.actors.items c.args.who c.index.result.now (omega (arith, c.self.inside.actors.ok.0)) c.index.ensures)
    refl (confirm_else (state_of c.self.inside) c.args.who c.index.result.now c.index.result.now.state c.in_default.not-Asks) c.no-in_default.ensures

pub returns-then-in_force-area : goal.returns-then-in_force-area
returns-then-in_force-area c =
    stays (λ b. confirm b c.args.who) (state_of c.self.inside) c.args.self.now c.args.who c.index.result.now (Asks c.in-Asks.area) _ c.no-then-in_force-area.result
    c.self.view_is
    (at_index c.self.inside.actors.items c.args.who c.index.result.now (omega (arith, c.self.inside.actors.ok.0)) c.index.ensures)
    c.in-Asks.is (confirm_moved (state_of c.self.inside) c.args.who c.index.result.now c.in-Asks.area c.if-in_force-area.true) c.no-then-in_force-area.ensures

pub invariant_of-self : goal.invariant_of-self
invariant_of-self c =
    let below : c.args.who < length c.self.inside.actors.items = omega (arith, c.self.inside.actors.ok.0) in
    let same : c.index_mut.result.now ≡ c.index.result.now =
    same_read c.self.inside.actors.items c.args.who c.index_mut.result.now c.index.result.now below c.index_mut.ensures.value c.index.ensures in
    let sound = confirms_sound (state_of c.self.inside) c.args.who c.index_mut.result.now c.in-Asks.area c.self.invariant.0
    (at_index c.self.inside.actors.items c.args.who c.index_mut.result.now below c.index_mut.ensures.value)
    (ap (λ (x : Actor). x.state) same ∙ c.in-Asks.is) c.if-in_force-area.false in
    (sound, c.self.invariant.1)

pub returns : goal.returns
returns c =
    let below : c.args.who < length c.self.inside.actors.items = omega (arith, c.self.inside.actors.ok.0) in
    let same : c.index_mut.result.now ≡ c.index.result.now =
    same_read c.self.inside.actors.items c.args.who c.index_mut.result.now c.index.result.now below c.index_mut.ensures.value c.index.ensures in
    acts (λ b. confirm b c.args.who) (state_of c.self.inside) c.args.self.now c.args.who c.index_mut.result.now (Asks c.in-Asks.area) c.yes.result _ c.self.view_is
    (at_index c.self.inside.actors.items c.args.who c.index_mut.result.now below c.index_mut.ensures.value)
    (ap (λ (x : Actor). x.state) same ∙ c.in-Asks.is)
    (taken (confirmed (state_of c.self.inside) c.args.who c.index_mut.result.now c.in-Asks.area)
    (confirm (state_of c.self.inside) c.args.who c.index_mut.result.now (Asks c.in-Asks.area)) c.self.inside.version c.yes.result
    (confirm_held (state_of c.self.inside) c.args.who c.index_mut.result.now c.in-Asks.area c.if-in_force-area.false)
    (c.yes.ensures ∙ ap Yes c.from.ensures))
