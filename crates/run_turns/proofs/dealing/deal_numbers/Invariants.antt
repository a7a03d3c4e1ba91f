use Rattle.std.proofs.Common.{◌≡◌}
use Rattle.worker_gate.specs.Reloading.{KeepsPoints}
use Rattle.run_turns.specs.Dealing.{CanDeal}
use Rattle.run_turns.proofs.dealing.deal_numbers.Given as goal

abbrev pub invariant-tries : goal.invariant-tries
invariant-tries g l =
    record {
      can : CanDeal l.start l.dealer;
      same_areas : l.dealer.areas ≡ l.initial.dealer.areas;
      its_areas : l.idle.areas ≡ l.dealer.areas.now;
      draws : l.dealer.seat.known.actor.draws ≡ l.initial.dealer.seat.known.actor.draws;
      points : KeepsPoints l.initial.dealer.desk.known l.dealer.desk.known;
      share : l.dealer.seat.known.share ≡ l.initial.dealer.seat.known.share;
      reads : l.dealer.seat.known.reads ≡ l.initial.dealer.seat.known.reads;
      idle_share : l.idle.known.share ≡ l.initial.idle.known.share;
      idle_reads : l.idle.known.reads ≡ l.initial.idle.known.reads;
    }
