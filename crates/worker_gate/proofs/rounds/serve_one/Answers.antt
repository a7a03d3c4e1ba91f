use Rattle.worker_gate.proofs.Served.{of_round_on}
use Rattle.worker_gate.proofs.rounds.serve_one.Goals as goal

pub returns-clause-round : goal.returns-clause-round
returns-clause-round g c =
    of_round_on c.args.task.now.areas.now (g.S.RoundItems.items c.args.task.now.items.now) c.args.task.now.start c.args.task.now.end c.args.worker.now c.serve_in.new.worker c.requires.round
    c.serve_in.ensures.served c.serve_in.ensures.work c.serve_in.ensures.idle
