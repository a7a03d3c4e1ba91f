use Rattle.std.proofs.Common.{◌≡◌, ◌≤◌, ◌-◌, ◌++◌, length, take}
use Rattle.std.specs.Option.{option_map}
use Rattle.aftr_io.proofs.pieces.put_all.Given as goal

abbrev pub invariant-pieces : goal.invariant-pieces
invariant-pieces g l = let s = g.S.Sink in record {
  within : l.done ≤ length l.bytes;
  out : s.out l.sink ≡ option_map (λ taken. taken ++ take l.done l.bytes) (s.out l.initial.sink);
  faults : s.faults l.sink ≡ s.faults l.initial.sink;
}

abbrev pub decreases-pieces : goal.decreases-pieces
decreases-pieces g l = length l.bytes - l.done
