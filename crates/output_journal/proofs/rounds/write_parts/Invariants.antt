use Rattle.std.proofs.Common.{false, flat_map, length, take, ◌-◌, ◌≤◌}
use Rattle.output_journal.specs.Log.{Logged, adds, output_names}
use Rattle.output_journal.specs.Parts.{bytes_for}
use Rattle.output_journal.proofs.rounds.write_parts.Given as goal

abbrev pub invariant-parts : goal.invariant-parts
invariant-parts g l =
    let f = g.O.Writing in
    let part = g.P.RoundPart in record {
      within : l.i ≤ length l.parts;
      logged : Logged (output_names l.names) false
          (flat_map (λ p. adds l.output (bytes_for (part.packet_bytes p) (part.line_bytes p) l.output)) (take l.i l.parts))
          (f.written l.initial.files) (f.written l.files);
    }

abbrev pub decreases-parts : goal.decreases-parts
decreases-parts g l = length l.parts - l.i
