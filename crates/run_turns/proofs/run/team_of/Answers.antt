use Rattle.std.proofs.Common.{ap, refl, ◌≡◌}
use Rattle.run_turns.specs.Runs.{IsBench, IsNewLine}
use Rattle.run_turns.specs.declared.turn.TurnSeat.TheVariants as turn_seat
use Rattle.run_turns.proofs.Elements.{all_more, count_more}
use Rattle.run_turns.proofs.run.team_of.Goals as goal

pub workers-preserved : goal.workers-preserved
workers-preserved g c =
    let added = c.in_ok-add_worker.ensures.added in
    let before = c.workers.pipeline in
    let known = c.workers.invariant in
    let judges = ap (λ x. x.judges) added in
    let buffers = ap (λ x. x.buffers) added in (
      rw judges (count_more before.judges _ known.0),
      (
        rw buffers (count_more before.buffers _ known.1.0),
        (
          rw judges (all_more (λ b. IsBench c.args.task b.court.task b.limited) before.judges _ known.1.1.0 (record { same_task = refl; limits = c.is_some.ensures })),
          rw buffers (all_more (λ bs. IsNewLine (λ t. t.seat ≡ turn_seat.Away) bs) before.buffers _ known.1.1.1 c.in_ok-buffers.ensures),
        ),
      ),
    )
