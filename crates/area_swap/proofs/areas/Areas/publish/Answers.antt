use Rattle.std.proofs.Common.{rules, arith, sym, subst}
use Rattle.area_swap.specs.Answers.{HasPublished}
use Rattle.area_swap.specs.Values.{SeatValue, IsFull}
use Rattle.area_swap.proofs.Belonging.{knows_plan}
use Rattle.area_swap.proofs.DeskSteps.{publishes}
use Rattle.area_swap.proofs.Deskwork.{published_is}
use Rattle.area_swap.proofs.areas.Areas.publish.Goals as goal

pub fetch_add-found-requires : goal.fetch_add-found-requires
fetch_add-found-requires c =
    let full : IsFull c.desk.inside.place.me.0 =
    let P : SeatValue → Type 0 = λ s. IsFull s.known in subst P (sym c.desk.view_is) c.requires.phase in (
      search rules,
      omega (arith, c.self.invariant.2),
      publishes _ _ _ _ (knows_plan _ _ _ _ _ _ _ c.self.view_is c.desk.view_is c.requires.areas c.self.invariant.0) c.desk.invariant.0.has full,
    )

pub returns-clause-published : goal.returns-clause-published
returns-clause-published c =
    let P : SeatValue → Type 0 = λ s. HasPublished c.halves-point.result.records s.known c.fetch_add-found.new.seat.me.0 in
    subst P c.desk.view_is (published_is c.fetch_add-found.ensures.2 _ c.halves-point.ensures c.desk.invariant.0.has)
