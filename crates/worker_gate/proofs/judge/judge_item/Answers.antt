use Rattle.ip_codec.specs.Seen.{seen}
use Rattle.worker_gate.proofs.Judged.{outcome_is}
use Rattle.worker_gate.proofs.Trying.{reads_on_holding}
use Rattle.worker_gate.proofs.judge.judge_item.Goals as goal

pub returns-clause-holding : goal.returns-clause-holding
returns-clause-holding g c =
    reads_on_holding c.args.areas.now c.args.outcome.now.version c.args.settings.now c.args.seat.now c.judge_held.new.seat c.judge_held.ensures.reads
    c.requires.holding

pub returns-clause-outcome : goal.returns-clause-outcome
returns-clause-outcome g c =
    outcome_is c.args.areas.now c.args.outcome.now.number c.args.outcome.now.version c.args.settings.now c.args.seat.now (seen c.args.item.now)
    c.judge_held.new.verdict c.access.ensures.fits c.access.ensures.room c.requires.holding c.judge_held.ensures.value
