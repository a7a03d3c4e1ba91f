use Rattle.std.proofs.Common.{All, length, ◌≡◌}
use Rattle.run_turns.specs.Runs.{IsBench, IsNewLine}
use Rattle.run_turns.specs.declared.turn.TurnSeat.TheVariants as turn_seat
use Rattle.run_turns.proofs.run.team_of.Given as goal

-- a worker for each turn, each with its judge and its buffers
abbrev pub invariant-workers : goal.invariant-workers
invariant-workers g l =
    (length l.pipeline.judges ≡ l.counter) × ((length l.pipeline.buffers ≡ l.counter)
    × (All (λ b. IsBench l.task b.court.task b.limited) l.pipeline.judges × All (λ bs. IsNewLine (λ t. t.seat ≡ turn_seat.Away) bs) l.pipeline.buffers))
