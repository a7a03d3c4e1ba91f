-- The chain goes on at the place where the walk is, and what is left is shorter at each step.
use Rattle.std.proofs.Common.{◌≡◌, ◌-◌, ◌≤◌, length, drop}
use Rattle.ipv6_chain.specs.Chains.{chain_of, chain_from}
use Rattle.ipv6_chain.proofs.headers.walk.Given as goal

abbrev pub invariant-headers : goal.invariant-headers
invariant-headers l = record {
  chain : chain_from l.number l.at (drop l.at l.body) l.start ≡ chain_of l.fn.next l.body l.start;
  inside : l.at ≤ length l.body;
}

abbrev pub decreases-headers : goal.decreases-headers
decreases-headers l = length l.body - l.at
