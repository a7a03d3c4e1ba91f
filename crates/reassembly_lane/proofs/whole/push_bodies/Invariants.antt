use Rattle.std.proofs.Common.{◌≡◌, ◌++◌, take}
use Rattle.reassembly_lane.specs.Joined.{joined}
use Rattle.reassembly_lane.proofs.whole.push_bodies.Given as goal

abbrev pub invariant-loop-part : goal.invariant-loop-part
invariant-loop-part l = l.bytes.items ≡ l.fn.bytes.items ++ joined (take l.part-index l.parts)
