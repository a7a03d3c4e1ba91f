use Rattle.std.proofs.Common.{rules, arith, ◌≡◌, ◌<◌, ◌∙◌, subst, sym, refl}
use Rattle.area_swap.specs.Answers.{HasLost, HasDrawn}
use Rattle.area_swap.specs.Values.{AreasValue, SeatValue, HoldsOne, HoldsStill}
use Rattle.area_swap.specs.Views.{held_version}
use Rattle.area_swap.proofs.Belonging.{knows_plan}
use Rattle.area_swap.proofs.Drawing.{held_is, holds_it, glanced_plan, glanced_right, glanced_share, glanced_word, room_after, holds_after, small_after, lost_again, lost_is, lost_still, taken_again, taken_is, taken_still}
use Rattle.area_swap.proofs.WorkerSteps.{glances, draws}
use Rattle.area_swap.proofs.areas.Areas.draw_run.Goals as goal

pub load-saw-requires : goal.load-saw-requires
load-saw-requires c =
    (search rules, omega (arith, c.self.invariant.2), glances _ _ _ _ (knows_plan _ _ _ _ _ _ _ c.self.view_is c.seat.view_is c.requires.areas c.self.invariant.0))

pub compare_exchange-found-requires : goal.compare_exchange-found-requires
compare_exchange-found-requires c =
    let plan = knows_plan _ _ _ _ _ _ _ c.self.view_is c.seat.view_is c.requires.areas c.self.invariant.0 in
    let same : c.seat.inside.place.me.0.plan ≡ c.self.inside.plan = plan ∙ c.self.invariant.0 in
    let holds : HoldsOne c.seat.inside.place.me.0 =
    let P : SeatValue → Type 0 = λ s. HoldsOne s.known in subst P (sym c.seat.view_is) c.requires.holding in
    let may : 0 < c.seat.inside.place.me.0.right =
    let P : SeatValue → Type 0 = λ s. 0 < s.known.right in subst P (sym c.seat.view_is) c.requires.may_draw in
    let k1 = c.load-saw.ensures.2 in (
      search rules,
      omega (arith, c.self.invariant.2),
      draws _ _ _ _ (glanced_plan k1 _ c.halves-seen.ensures ∙ plan) _ c.count_within-count.result _ (glanced_share k1 _ c.halves-seen.ensures c.seat.invariant.0.shared)
          (glanced_right k1 _ c.halves-seen.ensures may)
          (glanced_word k1 _ c.halves-seen.ensures) (small_after k1 _ c.halves-seen.ensures)
          (holds_after k1 _ c.halves-seen.ensures _ _ (holds_it c.seat.inside.place.me.0 _ c.seat.invariant.1 holds) c.if-in_force-seat.false)
          (room_after k1 _ c.halves-seen.ensures c.self.inside.plan _ _ same c.limit-limit.ensures c.count_within-count.ensures.below_limit),
    )

pub returns-then-found-saw-clause-drawn : goal.returns-then-found-saw-clause-drawn
returns-then-found-saw-clause-drawn c =
    let plan = knows_plan _ _ _ _ _ _ _ c.self.view_is c.seat.view_is c.requires.areas c.self.invariant.0 in
    let same : c.seat.inside.place.me.0.plan ≡ c.self.inside.plan = plan ∙ c.self.invariant.0 in
    let holds : HoldsOne c.seat.inside.place.me.0 =
    let P : SeatValue → Type 0 = λ s. HoldsOne s.known in subst P (sym c.seat.view_is) c.requires.holding in
    let held : c.halves-seen.result.version ≡ held_version c.seat.inside.place.me.0 =
    c.if-in_force-seat.false ∙ sym (held_is c.seat.inside.place.me.0 _ c.seat.invariant.1 holds) in
    let lost : HasLost c.self.inside.plan c.args.end c.load-saw.result c.compare_exchange-found.result (held_version c.seat.inside.place.me.0) c.seat.inside.place.me.0 c.compare_exchange-found.new.seat.me.0 =
    lost_is c.load-saw.ensures.2 _ c.halves-seen.ensures c.compare_exchange-found.ensures.2 c.self.inside.plan c.args.end _ _ same refl
    c.if-found-saw.true held c.if-seen-end.false c.limit-limit.ensures c.if-seen-limit.false in
    let P : AreasValue → Type 0 =
    λ a. HasLost a.plan c.args.end c.load-saw.result c.compare_exchange-found.result (held_version c.seat.inside.place.me.0) c.seat.inside.place.me.0 c.compare_exchange-found.new.seat.me.0 in
    let Q : SeatValue → Type 0 =
    λ s. HasLost c.args.self.now.plan c.args.end c.load-saw.result c.compare_exchange-found.result (held_version s.known) s.known c.compare_exchange-found.new.seat.me.0 in
    subst Q c.seat.view_is (subst P c.self.view_is lost)

pub returns-clause-drawn : goal.returns-clause-drawn
returns-clause-drawn c =
    let plan = knows_plan _ _ _ _ _ _ _ c.self.view_is c.seat.view_is c.requires.areas c.self.invariant.0 in
    let same : c.seat.inside.place.me.0.plan ≡ c.self.inside.plan = plan ∙ c.self.invariant.0 in
    let holds : HoldsOne c.seat.inside.place.me.0 =
    let P : SeatValue → Type 0 = λ s. HoldsOne s.known in subst P (sym c.seat.view_is) c.requires.holding in
    let held : c.halves-seen.result.version ≡ held_version c.seat.inside.place.me.0 =
    c.if-in_force-seat.false ∙ sym (held_is c.seat.inside.place.me.0 _ c.seat.invariant.1 holds) in
    let taken : HasDrawn c.self.inside.plan c.args.end c.args.most c.halves-seen.result.records c.count_within-count.result (held_version c.seat.inside.place.me.0) c.seat.inside.place.me.0 c.compare_exchange-found.new.seat.me.0 =
    taken_is c.load-saw.ensures.2 _ c.halves-seen.ensures c.compare_exchange-found.ensures.2 c.self.inside.plan c.args.end c.args.most _ _ c.count_within-count.result same refl
    refl c.if-found-saw.false held c.limit-limit.ensures c.count_within-count.ensures.count c.count_within-count.ensures.some_one
    c.count_within-count.ensures.below_end c.count_within-count.ensures.below_limit in
    let P : AreasValue → Type 0 =
    λ a. HasDrawn a.plan c.args.end c.args.most c.halves-seen.result.records c.count_within-count.result (held_version c.seat.inside.place.me.0) c.seat.inside.place.me.0 c.compare_exchange-found.new.seat.me.0 in
    let Q : SeatValue → Type 0 =
    λ s. HasDrawn c.args.self.now.plan c.args.end c.args.most c.halves-seen.result.records c.count_within-count.result (held_version s.known) s.known c.compare_exchange-found.new.seat.me.0 in
    subst Q c.seat.view_is (subst P c.self.view_is taken)

pub invariant_of-seat-then-found-saw : goal.invariant_of-seat-then-found-saw
invariant_of-seat-then-found-saw c =
    lost_again c.load-saw.ensures.2 _ c.halves-seen.ensures c.compare_exchange-found.ensures.2 _ _ c.if-found-saw.true c.seat.invariant.0 c.seat.invariant.1
    c.seat.invariant.2 c.seat.invariant.3

pub invariant_of-seat-2 : goal.invariant_of-seat-2
invariant_of-seat-2 c =
    taken_again c.load-saw.ensures.2 _ c.halves-seen.ensures c.compare_exchange-found.ensures.2 _ _ c.count_within-count.result refl refl c.if-found-saw.false
    c.seat.invariant.0 c.seat.invariant.1 c.seat.invariant.2 c.seat.invariant.3

pub returns-then-found-saw-clause-holding : goal.returns-then-found-saw-clause-holding
returns-then-found-saw-clause-holding c =
    let holds : HoldsOne c.seat.inside.place.me.0 =
    let P : SeatValue → Type 0 = λ s. HoldsOne s.known in subst P (sym c.seat.view_is) c.requires.holding in
    let Q : SeatValue → Type 0 = λ s. HoldsStill s.known c.compare_exchange-found.new.seat.me.0 in
    subst Q c.seat.view_is
    (lost_still c.load-saw.ensures.2 _ c.halves-seen.ensures c.compare_exchange-found.ensures.2 c.if-found-saw.true holds)

pub returns-clause-holding : goal.returns-clause-holding
returns-clause-holding c =
    let holds : HoldsOne c.seat.inside.place.me.0 =
    let P : SeatValue → Type 0 = λ s. HoldsOne s.known in subst P (sym c.seat.view_is) c.requires.holding in
    let Q : SeatValue → Type 0 = λ s. HoldsStill s.known c.compare_exchange-found.new.seat.me.0 in
    subst Q c.seat.view_is
    (taken_still c.load-saw.ensures.2 _ c.halves-seen.ensures c.compare_exchange-found.ensures.2 c.count_within-count.result refl refl c.if-found-saw.false
    holds)
