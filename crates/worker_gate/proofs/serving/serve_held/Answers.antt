use Rattle.worker_gate.specs.Serving.{IsHolding}
use Rattle.worker_gate.proofs.Served.{read_served, read_work, served_on}
use Rattle.worker_gate.proofs.Trying.{reads_on_holding}
use Rattle.worker_gate.proofs.serving.serve_held.Goals as goal

pub serve_under-requires-clause-work : goal.serve_under-requires-clause-work
serve_under-requires-clause-work g c =
    read_work c.args.task.now.areas.now c.args.task.now.start c.args.task.now.end c.args.worker.now c.held_settings-settings.new.seat c.held_settings-settings.ensures.reads
    c.requires.work

pub serve_under-requires-clause-holding : goal.serve_under-requires-clause-holding
serve_under-requires-clause-holding g c =
    let v = c.args.worker.now in
    let settings = c.held_settings-settings.result in
    let held : IsHolding c.args.task.now.areas.now c.args.version settings v.seat =
    record {
      its_areas = c.requires.work.its_areas;
      holds = c.requires.holding;
      held = c.requires.version;
      compiled = c.requires.compiled;
      has_settings = c.held_settings-settings.ensures.value;
    } in
    reads_on_holding c.args.task.now.areas.now c.args.version settings v.seat c.held_settings-settings.new.seat c.held_settings-settings.ensures.reads held

pub returns-clause-served : goal.returns-clause-served
returns-clause-served g c =
    let p = c.args.task.now.areas.now.plan in
    let items = g.S.RoundItems.items c.args.task.now.items.now in
    let v = c.args.worker.now in
    let s = c.held_settings-settings.new.seat in
    served_on p items c.args.task.now.start v (record v { seat = s }) c.serve_under.new.worker
    (read_served p items c.args.task.now.start v s c.held_settings-settings.ensures.reads) c.serve_under.ensures.served
