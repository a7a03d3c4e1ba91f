use Rattle.worker_gate.proofs.Served.{nothing_served, nothing_work, run_on, run_work, served_none, served_on}
use Rattle.worker_gate.proofs.serving.serve_under.Goals as goal

pub turns-init : goal.turns-init
turns-init g c =
    record {
      work = c.requires.work;
      holding = c.requires.holding;
      served = served_none c.args.task.now.areas.now.plan (g.S.RoundItems.items c.args.task.now.items.now) c.args.task.now.start c.args.worker.now;
    }

pub put_run-requires-clause-holding : goal.put_run-requires-clause-holding
put_run-requires-clause-holding g c = c.take_run.ensures.goes_on_holding c.args.version c.args.settings.now c.turns.invariant.holding

pub turns-preserved-else-patient : goal.turns-preserved-else-patient
turns-preserved-else-patient g c =
    let p = c.args.task.now.areas.now.plan in
    let items = g.S.RoundItems.items c.args.task.now.items.now in
    let v = c.turns.worker in
    let s = c.take_run.new.seat in
    let w = c.put_run.new.worker in
    let first = c.in-Run.first in
    let count = c.in-Run.count in
    record {
      work =
          run_work p items c.args.task.now.areas.now c.args.task.now.start c.args.task.now.end first count c.args.version v w s c.turns.invariant.work c.in-Run.ensures.turned
          c.put_run.ensures.holding.its_areas c.put_run.ensures.down;
      holding = c.put_run.ensures.holding;
      served =
          run_on p items c.args.task.now.areas.now c.args.task.now.start c.args.task.now.end first count c.args.version c.args.worker.now v w s c.turns.invariant.served
          c.turns.invariant.work c.in-Run.ensures.turned c.take_run.ensures.holding.share c.turns.invariant.holding.held c.put_run.ensures.down;
    }

pub returns-then-threshold-worker-clause-work : goal.returns-then-threshold-worker-clause-work
returns-then-threshold-worker-clause-work g c =
    run_work c.args.task.now.areas.now.plan (g.S.RoundItems.items c.args.task.now.items.now) c.args.task.now.areas.now c.args.task.now.start c.args.task.now.end
    c.in-Run.first c.in-Run.count c.args.version c.turns.worker c.put_run.new.worker c.take_run.new.seat c.turns.invariant.work c.in-Run.ensures.turned
    c.put_run.ensures.holding.its_areas c.put_run.ensures.down

pub returns-then-threshold-worker-clause-served : goal.returns-then-threshold-worker-clause-served
returns-then-threshold-worker-clause-served g c =
    run_on c.args.task.now.areas.now.plan (g.S.RoundItems.items c.args.task.now.items.now) c.args.task.now.areas.now c.args.task.now.start c.args.task.now.end
    c.in-Run.first c.in-Run.count c.args.version c.args.worker.now c.turns.worker c.put_run.new.worker c.take_run.new.seat c.turns.invariant.served
    c.turns.invariant.work c.in-Run.ensures.turned c.take_run.ensures.holding.share c.turns.invariant.holding.held c.put_run.ensures.down

pub turns-preserved : goal.turns-preserved
turns-preserved g c =
    let p = c.args.task.now.areas.now.plan in
    let items = g.S.RoundItems.items c.args.task.now.items.now in
    let v = c.turns.worker in
    let s = c.take_run.new.seat in
    record {
      work = nothing_work c.args.task.now.areas.now c.args.task.now.start c.args.task.now.end v s c.take_run.ensures.areas c.in-Lost.ensures.turned c.turns.invariant.work;
      holding = c.take_run.ensures.goes_on_holding c.args.version c.args.settings.now c.turns.invariant.holding;
      served =
          served_on p items c.args.task.now.start c.args.worker.now v (record v { seat = s }) c.turns.invariant.served
          (nothing_served p items c.args.task.now.start v s c.in-Lost.ensures.turned);
    }

pub returns-in-Moved-clause-holding : goal.returns-in-Moved-clause-holding
returns-in-Moved-clause-holding g c = c.take_run.ensures.goes_on_holding c.args.version c.args.settings.now c.turns.invariant.holding

pub returns-in-Stop-clause-holding : goal.returns-in-Stop-clause-holding
returns-in-Stop-clause-holding g c = c.take_run.ensures.goes_on_holding c.args.version c.args.settings.now c.turns.invariant.holding

pub returns-in-Moved-clause-work : goal.returns-in-Moved-clause-work
returns-in-Moved-clause-work g c =
    nothing_work c.args.task.now.areas.now c.args.task.now.start c.args.task.now.end c.turns.worker c.take_run.new.seat c.take_run.ensures.areas
    c.in-Moved.ensures.turned c.turns.invariant.work

pub returns-in-Stop-clause-work : goal.returns-in-Stop-clause-work
returns-in-Stop-clause-work g c =
    nothing_work c.args.task.now.areas.now c.args.task.now.start c.args.task.now.end c.turns.worker c.take_run.new.seat c.take_run.ensures.areas
    c.in-Stop.ensures.turned.nothing c.turns.invariant.work
