use Rattle.std.proofs.Common.{◌⊎◌}
use Rattle.area_swap.specs.Values.{IsOf, IsReady, IsResting}
use Rattle.swap_cases.proofs.threads.publish_all.Given as goal

abbrev pub invariant-turns : goal.invariant-turns
invariant-turns l =
    record {
      areas : IsOf l.areas l.desk;
      phase : IsResting l.desk.known ⊎ IsReady l.desk.known;
    }
