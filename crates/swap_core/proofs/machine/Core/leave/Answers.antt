use Rattle.std.proofs.Common.{◌≡◌, ◌<◌, length, refl, ap, subst, sym, arith}
use Rattle.swap_core.specs.Sound.{HasClaimed}
use Rattle.swap_core.specs.States.{gone}
use Rattle.swap_core.specs.Transitions.{leave}
use Rattle.swap_core.specs.Views.{state_of}
use Rattle.swap_core.specs.declared.actors.Actor.{Actor}
use Rattle.swap_core.proofs.Answering.{stranger, stays, acts, same_read, taken, leave_else, leave_claimed}
use Rattle.aftr_base.proofs.PlaceLemmas.{at_index}
use Rattle.swap_core.proofs.Moves.{leaves_sound, claimed_area, counted_there}
use Rattle.swap_core.proofs.machine.Core.leave.Goals as goal

pub returns-then-at-len : goal.returns-then-at-len
returns-then-at-len c =
    stranger (λ b. leave b c.args.who) (state_of c.self.inside) c.args.self.now c.args.who c.no.result c.self.view_is
    (omega (arith, c.self.inside.actors.ok.0)) c.no.ensures

pub returns-in_default : goal.returns-in_default
returns-in_default c =
    stays (λ b. leave b c.args.who) (state_of c.self.inside) c.args.self.now c.args.who c.index.result.now (c.index.result.now.state) _ c.no-in_default.result
    c.self.view_is
    (at_index c.self.inside.actors.items c.args.who c.index.result.now (omega (arith, c.self.inside.actors.ok.0)) c.index.ensures)
    refl (leave_else (state_of c.self.inside) c.args.who c.index.result.now c.index.result.now.state c.in_default.ensures.none) c.no-in_default.ensures

pub bounds-self-inside-area : goal.bounds-self-inside-area
bounds-self-inside-area c =
    claimed_area (state_of c.self.inside) c.args.who c.index.result.now c.in-Some.area c.self.invariant.0
    (at_index c.self.inside.actors.items c.args.who c.index.result.now (omega (arith, c.self.inside.actors.ok.0)) c.index.ensures) c.in-Some.ensures.some

pub bounds-self-inside-area-2 : goal.bounds-self-inside-area-2
bounds-self-inside-area-2 c =
    claimed_area (state_of c.self.inside) c.args.who c.index.result.now c.in-Some.area c.self.invariant.0
    (at_index c.self.inside.actors.items c.args.who c.index.result.now (omega (arith, c.self.inside.actors.ok.0)) c.index.ensures) c.in-Some.ensures.some

pub overflow_sub-self : goal.overflow_sub-self
overflow_sub-self c =
    counted_there (state_of c.self.inside) c.args.who c.index.result.now c.in-Some.area c.self.invariant.0
    (at_index c.self.inside.actors.items c.args.who c.index.result.now (omega (arith, c.self.inside.actors.ok.0)) c.index.ensures) c.in-Some.ensures.some

pub invariant_of-self : goal.invariant_of-self
invariant_of-self c =
    let below : c.args.who < length c.self.inside.actors.items = omega (arith, c.self.inside.actors.ok.0) in
    let same : c.index_mut.result.now ≡ c.index.result.now =
    same_read c.self.inside.actors.items c.args.who c.index_mut.result.now c.index.result.now below c.index_mut.ensures.value c.index.ensures in
    let has : HasClaimed c.in-Some.area c.index_mut.result.now.state =
    subst (HasClaimed c.in-Some.area) (ap (λ (x : Actor). x.state) (sym same)) c.in-Some.ensures.some in
    let sound = leaves_sound (state_of c.self.inside) c.args.who c.index_mut.result.now c.in-Some.area c.self.invariant.0
    (at_index c.self.inside.actors.items c.args.who c.index_mut.result.now below c.index_mut.ensures.value) has in
    (sound, c.self.invariant.1)

pub returns : goal.returns
returns c =
    let below : c.args.who < length c.self.inside.actors.items = omega (arith, c.self.inside.actors.ok.0) in
    let same : c.index_mut.result.now ≡ c.index.result.now =
    same_read c.self.inside.actors.items c.args.who c.index_mut.result.now c.index.result.now below c.index_mut.ensures.value c.index.ensures in
    let has : HasClaimed c.in-Some.area c.index_mut.result.now.state =
    subst (HasClaimed c.in-Some.area) (ap (λ (x : Actor). x.state) (sym same)) c.in-Some.ensures.some in
    acts (λ b. leave b c.args.who) (state_of c.self.inside) c.args.self.now c.args.who c.index_mut.result.now c.index_mut.result.now.state c.yes.result _ c.self.view_is
    (at_index c.self.inside.actors.items c.args.who c.index_mut.result.now below c.index_mut.ensures.value)
    refl
    (taken (gone (state_of c.self.inside) c.args.who c.index_mut.result.now c.in-Some.area)
    (leave (state_of c.self.inside) c.args.who c.index_mut.result.now c.index_mut.result.now.state) 0 c.yes.result
    (leave_claimed (state_of c.self.inside) c.args.who c.index_mut.result.now c.index_mut.result.now.state c.in-Some.area has) c.yes.ensures)
