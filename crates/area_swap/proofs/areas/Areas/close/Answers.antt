use Rattle.std.proofs.Common.{rules, arith, ◌∙◌, ap, sym}
use Rattle.swap_core.specs.declared.actors.Actor.{Actor}
use Rattle.area_swap.specs.SeatSteps.{Seated}
use Rattle.area_swap.specs.Values.{SeatValue}
use Rattle.area_swap.proofs.Belonging.{knows_plan}
use Rattle.area_swap.proofs.Closing.{last_history, last_drawn, last_reads}
use Rattle.area_swap.proofs.SeatMoves.{with_desk_keeps}
use Rattle.area_swap.proofs.WorkerSteps.{glances}
use Rattle.area_swap.proofs.areas.Areas.close.Goals as goal

pub join_seat-requires : goal.join_seat-requires
join_seat-requires c = (
  search rules,
  search rules,
  search rules,
  search rules,
  with_desk_keeps _ _ _ _ _ (knows_plan _ _ _ _ _ _ _ c.self.view_is c.seat.view_is c.requires.seat_areas c.self.invariant.0) c.seat.invariant.0.shared
      (ap (λ (s : SeatValue). s.known.actor.state) c.seat.view_is ∙ c.requires.idle) (ap (λ (x : Actor). x.state) c.desk.invariant.0.idle)
      c.seat.invariant.0.no_desk c.desk.invariant.0.has,
)

pub load-requires : goal.load-requires
load-requires c =
    let plan = knows_plan _ _ _ _ _ _ _ c.self.view_is c.seat.view_is c.requires.seat_areas c.self.invariant.0 in
    (search rules, omega (arith, c.self.invariant.2), glances _ _ _ _ (ap (λ (m : Seated). m.0.plan) c.join_seat.ensures.2 ∙ plan))

pub invariant_of-result : goal.invariant_of-result
invariant_of-result c =
    let plan = knows_plan _ _ _ _ _ _ _ c.self.view_is c.seat.view_is c.requires.seat_areas c.self.invariant.0 in
    last_history c.seat.inside.place.me c.desk.inside.place.me c.join_seat.ensures.2 c.load.ensures.2 _ c.halves-records.ensures c.desk.invariant.0
    (ap (λ (s : SeatValue). s.known.share) c.seat.view_is ∙ c.requires.whole) _ _ _ (plan ∙ c.self.invariant.0) (sym c.desk.invariant.2)

pub returns-clause-draws : goal.returns-clause-draws
returns-clause-draws c =
    let plan = knows_plan _ _ _ _ _ _ _ c.self.view_is c.seat.view_is c.requires.seat_areas c.self.invariant.0 in
    last_drawn c.seat.inside.place.me c.desk.inside.place.me c.join_seat.ensures.2 c.load.ensures.2 _ c.halves-records.ensures c.desk.invariant.0
    (ap (λ (s : SeatValue). s.known.share) c.seat.view_is ∙ c.requires.whole) _ _ _ _ (plan ∙ c.self.invariant.0) (sym c.desk.invariant.2)
    (ap (λ (s : SeatValue). s.known.actor.draws) c.seat.view_is)

pub returns-clause-reads : goal.returns-clause-reads
returns-clause-reads c =
    last_reads c.seat.inside.place.me c.desk.inside.place.me c.join_seat.ensures.2 c.load.ensures.2 _ c.halves-records.ensures c.desk.invariant.0
    (ap (λ (s : SeatValue). s.known.share) c.seat.view_is ∙ c.requires.whole) ∙ ap (λ (s : SeatValue). s.known.reads) c.seat.view_is

pub returns-clause-history : goal.returns-clause-history
returns-clause-history c =
    let plan = knows_plan _ _ _ _ _ _ _ c.self.view_is c.seat.view_is c.requires.seat_areas c.self.invariant.0 in
    last_history c.seat.inside.place.me c.desk.inside.place.me c.join_seat.ensures.2 c.load.ensures.2 _ c.halves-records.ensures c.desk.invariant.0
    (ap (λ (s : SeatValue). s.known.share) c.seat.view_is ∙ c.requires.whole) _ _ _ (plan ∙ c.self.invariant.0) (sym c.desk.invariant.2)
