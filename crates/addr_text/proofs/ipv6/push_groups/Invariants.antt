use Rattle.std.proofs.Common.{◌≡◌, ◌+◌, ◌*◌, ◌≤◌, ◌++◌, ◌∷◌, length, take, get_or}
use Rattle.addr_text.specs.Canonical.{groups_text}
use Rattle.addr_text.proofs.ipv6.push_groups.Given as goal

abbrev pub invariant-rest : goal.invariant-rest
invariant-rest l = record {
  groups : l.text.bytes ≡ l.fn.text.bytes ++ groups_text (get_or l.groups 0 0 ∷ take l.group-index l.rest);
  len : length l.text.bytes ≤ length l.fn.text.bytes + 4 + 5 * l.group-index;
}
