use Rattle.std.proofs.Common.{◌≡◌, ℕ, ◌-◌, ◌≤◌, None, vec_len}
use Rattle.binding_rules.specs.Scans.{slot}
use Rattle.binding_rules.proofs.conflicts.no_owners.Given as goal

abbrev pub invariant-keys : goal.invariant-keys
invariant-keys l = record {
  size : vec_len l.owners ≤ 65536;
  none : (key : ℕ) → slot l.owners.items key ≡ None;
}

abbrev pub decreases-keys : goal.decreases-keys
decreases-keys l = 65536 - vec_len l.owners
