use Rattle.std.proofs.Common.{rules, arith, ◌≡◌, ◌≢◌, ◌%◌, ◌∙◌, sym, ap, subst, inl}
use Rattle.swap_core.specs.declared.actors.ActorState.TheVariants.{Looked, Asks}
use Rattle.area_swap.specs.declared.answers.Seen.{Seen}
use Rattle.area_swap.specs.Answers.{HasMoved, HoldsNow}
use Rattle.area_swap.specs.Values.{SeatValue}
use Rattle.area_swap.specs.Views.{unpacked}
use Rattle.area_swap.proofs.Belonging.{knows_plan}
use Rattle.area_swap.proofs.WorkerSteps.{looks, enters, confirms, leaves}
use Rattle.area_swap.proofs.Claiming.{looked_plan, looked_share, asked_plan, asked_share, looks_at, asks_for, held_is, still_asks, shared_after, plan_after, moved_is, worker_again}
use Rattle.area_swap.proofs.areas.Areas.claim.Goals as goal

pub load-requires : goal.load-requires
load-requires c = (
  search rules,
  omega (arith, c.self.invariant.2),
  looks _ _ _ _ (knows_plan _ _ _ _ _ _ _ c.self.view_is c.seat.view_is c.requires.areas c.self.invariant.0)
      c.seat.invariant.0.shared (ap (λ (s : SeatValue). s.known.actor.state) c.seat.view_is ∙ c.requires.idle),
)

pub fetch_add-requires : goal.fetch_add-requires
fetch_add-requires c =
    let plan = knows_plan _ _ _ _ _ _ _ c.self.view_is c.seat.view_is c.requires.areas c.self.invariant.0 in
    let k1 = c.load.ensures.2 in (
      search rules,
      omega (arith, c.self.invariant.2, c.claims_at-claims.ensures),
      enters _ _ _ _ (looked_plan k1 ∙ plan) c.halves-before.result.version _ c.claims_at-claims.ensures (looked_share k1 c.seat.invariant.0.shared)
          (looks_at k1 ∙ ap (λ (s : Seen). Looked s.version) (sym c.halves-before.ensures)),
    )

pub load-requires-2 : goal.load-requires-2
load-requires-2 c =
    let plan = knows_plan _ _ _ _ _ _ _ c.self.view_is c.seat.view_is c.requires.areas c.self.invariant.0 in
    let k1 = c.load.ensures.2 in
    let k2 = c.fetch_add.ensures.2 in (
      search rules,
      omega (arith, c.self.invariant.2),
      confirms _ _ _ _ (asked_plan k1 k2 ∙ plan) _ (asked_share k1 k2 c.seat.invariant.0.shared) (asks_for k1 k2),
    )

pub fetch_sub-requires : goal.fetch_sub-requires
fetch_sub-requires c =
    let plan = knows_plan _ _ _ _ _ _ _ c.self.view_is c.seat.view_is c.requires.areas c.self.invariant.0 in
    let k1 = c.load.ensures.2 in
    let k2 = c.fetch_add.ensures.2 in
    let k3 = c.load-2.ensures.2 in
    let other : (unpacked c.load-2.result).version % 2 ≢ (unpacked c.load.result).version % 2 =
    λ e. c.if-found-area.false (ap (λ (s : Seen). s.version % 2) c.halves-after.ensures ∙ e ∙ ap (λ (s : Seen). s.version % 2) (sym c.halves-before.ensures)) in (
      search rules,
      omega (arith, c.self.invariant.2, c.claims_at-claims.ensures),
      leaves _ _ _ _ (plan_after k1 k2 k3 other ∙ plan) (c.halves-before.result.version % 2) _ c.claims_at-claims.ensures
          (shared_after k1 k2 k3 other c.seat.invariant.0.shared)
          (inl (still_asks k1 k2 k3 other ∙ ap (λ (s : Seen). Asks (s.version % 2)) (sym c.halves-before.ensures))),
    )

pub invariant_of-seat-2 : goal.invariant_of-seat-2
invariant_of-seat-2 c =
    let other : (unpacked c.load-2.result).version % 2 ≢ (unpacked c.load.result).version % 2 =
    λ e. c.if-found-area.false (ap (λ (s : Seen). s.version % 2) c.halves-after.ensures ∙ e ∙ ap (λ (s : Seen). s.version % 2) (sym c.halves-before.ensures)) in
    worker_again c.load.ensures.2 c.fetch_add.ensures.2 c.load-2.ensures.2 c.fetch_sub.ensures.2 other _ _ c.seat.invariant.0 c.seat.invariant.2 c.seat.invariant.3

pub returns-clause-claimed : goal.returns-clause-claimed
returns-clause-claimed c =
    let other : (unpacked c.load-2.result).version % 2 ≢ (unpacked c.load.result).version % 2 =
    λ e. c.if-found-area.false (ap (λ (s : Seen). s.version % 2) c.halves-after.ensures ∙ e ∙ ap (λ (s : Seen). s.version % 2) (sym c.halves-before.ensures)) in
    let P : Seen → Type 0 = λ s. HasMoved s.version c.halves-after.result.version c.args.seat.now.known c.fetch_sub.new.seat.me.0 in
    let Q : Seen → Type 0 = λ s. HasMoved (unpacked c.load.result).version s.version c.args.seat.now.known c.fetch_sub.new.seat.me.0 in
    let R : SeatValue → Type 0 = λ s. HasMoved (unpacked c.load.result).version (unpacked c.load-2.result).version s.known c.fetch_sub.new.seat.me.0 in
    subst P (sym c.halves-before.ensures) (subst Q (sym c.halves-after.ensures) (subst R c.seat.view_is
    (moved_is c.load.ensures.2 c.fetch_add.ensures.2 c.load-2.ensures.2 c.fetch_sub.ensures.2 other
    (ap (λ (s : SeatValue). s.known.actor.state) c.seat.view_is ∙ c.requires.idle))))

pub returns-then-found-area-clause-claimed : goal.returns-then-found-area-clause-claimed
returns-then-found-area-clause-claimed c =
    let same : (unpacked c.load-2.result).version % 2 ≡ (unpacked c.load.result).version % 2 =
    sym (ap (λ (s : Seen). s.version % 2) c.halves-after.ensures) ∙ c.if-found-area.true ∙ ap (λ (s : Seen). s.version % 2) c.halves-before.ensures in
    let P : Seen → Type 0 = λ s. HoldsNow s.version c.args.seat.now.known c.load-2.new.seat.me.0 in
    let Q : SeatValue → Type 0 = λ s. HoldsNow (unpacked c.load-2.result).version s.known c.load-2.new.seat.me.0 in
    subst P (sym c.halves-after.ensures) (subst Q c.seat.view_is (held_is c.load.ensures.2 c.fetch_add.ensures.2 c.load-2.ensures.2 same))
