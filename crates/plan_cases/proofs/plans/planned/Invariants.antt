use Rattle.std.specs.Prelude.{◌≤◌, length}
use Rattle.plan_cases.proofs.LoadLemmas.{AreRead}
use Rattle.plan_cases.proofs.plans.planned.Given as goal

abbrev pub invariant-loads : goal.invariant-loads
invariant-loads l = record {
  read : AreRead l.list.items l.before;
  few : length l.list.items ≤ 255;
  count : length l.list.items ≤ l.at;
}
