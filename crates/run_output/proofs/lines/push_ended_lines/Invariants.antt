use Rattle.std.proofs.Common.{◌≡◌, ◌++◌, drop, flat_map}
use Rattle.aftr_base.specs.Appended.{Extends}
use Rattle.aftr_text.specs.Lines.{ended_text}
use Rattle.run_output.proofs.lines.push_ended_lines.Given as goal

abbrev pub invariant-numbers : goal.invariant-numbers
invariant-numbers l = record {
  left : l.lines.items ++ flat_map (ended_text l.expired) (drop l.number-index l.numbers) ≡ l.initial.lines.items ++ flat_map (ended_text l.expired) l.numbers;
  kept : Extends l.initial.lines.items l.lines.items;
}
