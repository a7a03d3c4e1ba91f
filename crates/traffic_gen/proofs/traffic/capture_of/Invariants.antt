use Rattle.std.proofs.Common.{◌≡◌}
use Rattle.traffic_gen.specs.Drawing.{state_after}
use Rattle.traffic_gen.specs.Traffic.{capture_of}
use Rattle.traffic_gen.proofs.traffic.capture_of.Given as goal

abbrev pub invariant-records : goal.invariant-records
invariant-records l = (l.state ≡ state_after l.seed l.number) × (l.list.items ≡ capture_of l.seed l.number)
