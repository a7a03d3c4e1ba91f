use Rattle.std.proofs.Common.{◌+◌, arith}
use Rattle.worker_gate.proofs.Served.{put_more, put_one_length}
use Rattle.worker_gate.proofs.serving.put_run.Goals as goal

pub numbers-preserved : goal.numbers-preserved
numbers-preserved g c =
    let p = c.args.task.now.areas.now.plan in
    let items = g.S.RoundItems.items c.args.task.now.items.now in
    let w = c.numbers.worker in
    let x = c.put_down.new.worker in
    record {
      down =
          put_more p items c.args.task.now.start c.args.first c.numbers.i c.args.version c.args.worker.now w x c.numbers.invariant.down c.put_down.ensures.down;
      holding = c.put_down.ensures.holding;
      room =
          omega (arith, put_one_length p items c.args.task.now.start (c.args.first + c.numbers.i) c.args.version w x c.put_down.ensures.down, c.put_down.ensures.down.same_room, c.numbers.invariant.room, c.numbers-test.true);
    }
