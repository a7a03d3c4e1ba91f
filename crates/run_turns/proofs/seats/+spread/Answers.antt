use Rattle.std.proofs.Common.{arith, ap}
use Rattle.area_swap.specs.declared.board.View.{View}
use Rattle.run_turns.proofs.Halving.{halves}
use Rattle.run_turns.proofs.seats.+spread.Goals as goal

pub lend-part-requires : goal.lend-part-requires
lend-part-requires t c =
    record { even = (halves c.args.halvings c.args.seat.known.share c.requires.few c.if-halvings-eq0.false c.requires.even).even }

pub spread-requires : goal.spread-requires
spread-requires t c =
    let half = halves c.args.halvings c.args.seat.known.share c.requires.few c.if-halvings-eq0.false c.requires.even in (
      omega (arith, c.decreases, c.if-halvings-eq0.false),
      (
        omega (arith, c.requires.few),
        (rw (ap (λ (v : View). v.share) c.lend-part.ensures.kept) half.rest, omega (arith, c.requires.room, half.twice)),
      ),
    )

pub spread-requires-2 : goal.spread-requires-2
spread-requires-2 t c =
    let half = halves c.args.halvings c.args.seat.known.share c.requires.few c.if-halvings-eq0.false c.requires.even in (
      omega (arith, c.decreases, c.if-halvings-eq0.false),
      (
        omega (arith, c.requires.few),
        (
          rw (ap (λ (v : View). v.share) c.lend-part.ensures.lent) half.rest,
          omega (arith, c.requires.room, half.twice, c.spread.ensures.many, c.spread.ensures.room),
        ),
      ),
    )

pub returns-clause-many : goal.returns-clause-many
returns-clause-many t c =
    let half = halves c.args.halvings c.args.seat.known.share c.requires.few c.if-halvings-eq0.false c.requires.even in
    omega (arith, c.spread-2.ensures.many, c.spread.ensures.many, half.twice)

pub returns-clause-shares : goal.returns-clause-shares
returns-clause-shares t c =
    let half = halves c.args.halvings c.args.seat.known.share c.requires.few c.if-halvings-eq0.false c.requires.even in
    omega (
      arith,
      c.spread-2.ensures.shares,
      c.spread.ensures.shares,
      ap (λ (v : View). v.share) c.lend-part.ensures.kept,
      ap (λ (v : View). v.share) c.lend-part.ensures.lent,
      half.even,
    )
