use Rattle.std.proofs.Common.{All, length, ◌≡◌}
use Rattle.run_turns.specs.declared.turn.TurnSeat.TheVariants as turn_seat
use Rattle.run_turns.proofs.run.buffers_of.Given as goal

abbrev pub invariant-buffers : goal.invariant-buffers
invariant-buffers g l = (length l.buffers.items ≡ l.counter) × All (λ t. t.seat ≡ turn_seat.Away) l.buffers.items
