use Rattle.std.proofs.Common.{refl}
use Rattle.ip_codec.specs.Seen.{seen}
use Rattle.worker_gate.proofs.Trying.{asked_once, judged_is, reads_on_holding}
use Rattle.worker_gate.proofs.serving.put_down.Goals as goal

pub returns-clause-holding : goal.returns-clause-holding
returns-clause-holding g c =
    reads_on_holding c.args.task.now.areas.now c.args.version c.args.settings.now c.args.worker.now.seat c.put_judged.new.seat c.put_judged.ensures.reads
    c.requires.holding

pub returns-clause-down : goal.returns-clause-down
returns-clause-down g c =
    let items = g.S.RoundItems.items c.args.task.now.items.now in
    let s = c.args.worker.now.seat in
    let k = c.put_judged.ensures.judged in
    record {
      verdict = k.verdict;
      outcomes = k.items;
      judged =
          judged_is c.args.task.now.areas.now items c.args.task.now.start c.args.number c.args.version s (seen c.item_into.new.item) k.verdict c.requires.holding.its_areas
          c.requires.holding.held c.item_into.ensures k.value;
      same_room = k.same_room;
      same_next = refl;
      only_reads = c.put_judged.ensures.reads;
      reads =
          asked_once items c.args.task.now.start c.args.number c.args.version (seen c.item_into.new.item) s.known.reads c.put_judged.new.seat.known.reads c.item_into.ensures
          c.put_judged.ensures.reads.rises c.put_judged.ensures.rises;
    }
