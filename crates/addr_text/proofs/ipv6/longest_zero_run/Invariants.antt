use Rattle.std.proofs.Common.{◌≡◌, ◌+◌, ◌≤◌, length, drop}
use Rattle.std.specs.Net.Text.{zero_run, longest_zero_run}
use Rattle.addr_text.proofs.ipv6.longest_zero_run.Given as goal

abbrev pub invariant-groups : goal.invariant-groups
invariant-groups l = record {
  run : l.run ≡ zero_run (drop l.i l.groups);
  longest : l.longest ≡ (longest_zero_run (drop l.i l.groups)).1;
  start : l.start ≡ l.i + (longest_zero_run (drop l.i l.groups)).0;
  run_within : l.i + l.run ≤ length l.groups;
  within : l.start + l.longest ≤ length l.groups;
}
