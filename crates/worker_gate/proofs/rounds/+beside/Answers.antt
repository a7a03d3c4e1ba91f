use Rattle.worker_gate.specs.declared.worker.Worker.{Worker}
use Rattle.worker_gate.specs.Gathering.{IsOfRound}
use Rattle.worker_gate.proofs.Hands.{first_and_others}
use Rattle.worker_gate.proofs.rounds.+beside.Goals as goal

pub serve_all-serve_one-requires : goal.serve_all-serve_one-requires
serve_all-serve_one-requires g t c =
    let P : Worker → Type 0 = λ w. IsOfRound c.args.task.now.areas.now (g.S.RoundItems.items c.args.task.now.items.now) c.args.task.now.start c.args.task.now.end w in
    record { round = (first_and_others P c.args.workers.now c.in-Some.first.now c.in-Some.others.now c.in-Some.ensures.cases.0 c.requires.round).0 }

pub serve_all-serve_beside-requires-clause-first : goal.serve_all-serve_beside-requires-clause-first
serve_all-serve_beside-requires-clause-first g t c κs within =
    let P : Worker → Type 0 = λ w. IsOfRound c.args.task.now.areas.now (g.S.RoundItems.items c.args.task.now.items.now) c.args.task.now.start c.args.task.now.end w in
    (first_and_others P c.args.workers.now c.in-Some.first.now c.in-Some.others.now c.in-Some.ensures.cases.0 c.requires.round).0

pub serve_all-serve_beside-requires-clause-others : goal.serve_all-serve_beside-requires-clause-others
serve_all-serve_beside-requires-clause-others g t c κs within =
    let P : Worker → Type 0 = λ w. IsOfRound c.args.task.now.areas.now (g.S.RoundItems.items c.args.task.now.items.now) c.args.task.now.start c.args.task.now.end w in
    (first_and_others P c.args.workers.now c.in-Some.first.now c.in-Some.others.now c.in-Some.ensures.cases.0 c.requires.round).1
