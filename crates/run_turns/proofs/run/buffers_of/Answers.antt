use Rattle.std.proofs.Common.{arith, length-append, [], ◌∷◌, ◌≡◌}
use Rattle.run_turns.specs.declared.turn.TurnSeat.TheVariants as turn_seat
use Rattle.run_turns.proofs.Elements.{all_more}
use Rattle.run_turns.proofs.run.buffers_of.Goals as goal

pub buffers-preserved : goal.buffers-preserved
buffers-preserved g c =
    let pushed = c.in_ok-push.ensures.items in
    let all = c.buffers.buffers.items in (
      rw pushed (omega (arith, length-append all (c.new.result ∷ []), c.buffers.invariant.0)),
      rw pushed (all_more (λ t. t.seat ≡ turn_seat.Away) all c.new.result c.buffers.invariant.1 c.new.ensures),
    )
