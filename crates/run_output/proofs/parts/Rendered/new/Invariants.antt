use Rattle.std.proofs.Common.{◌≡◌, [], length}
use Rattle.run_output.specs.Rendering.{lines_in, packets_in}
use Rattle.run_output.proofs.parts.Rendered.new.Given as goal

abbrev pub invariant-loop : goal.invariant-loop
invariant-loop l = record {
  count : length l.parts.items ≡ l.counter;
  packets : packets_in l.parts.items ≡ [];
  lines : lines_in l.parts.items ≡ [];
}
