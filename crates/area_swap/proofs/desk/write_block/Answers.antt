use Rattle.std.proofs.Common.{rules, arith, ap}
use Rattle.area_swap.specs.SeatSteps.{Seated}
use Rattle.area_swap.proofs.Deskwork.{may_find, may_write, other_view, written_on}
use Rattle.area_swap.proofs.desk.write_block.Goals as goal

pub load-stands-requires : goal.load-stands-requires
load-stands-requires c = (
  search rules,
  omega (arith, c.requires.written.inside),
  may_find _ _ _ _ c.words.j _ _ _
      (written_on _ _ _ _ c.args.first c.words.j _ _ c.requires.written (ap (λ (m : Seated). m.0) c.words.invariant.seat)) (omega arith),
)

pub store-requires : goal.store-requires
store-requires c = (
  search rules,
  omega (arith, c.requires.written.inside),
  may_write _ _ _ _ c.words.j _ _ _
      (written_on _ _ _ _ c.args.first c.words.j _ _ c.requires.written
      (ap (λ (m : Seated). m.0)
      (other_view c.args.place.now.me c.words.j c.args.words.now c.load-stands.ensures.2 c.words.invariant.seat c.requires.written.next c.if-stands-word.true)))
      _ (omega arith) (search rules),
)
