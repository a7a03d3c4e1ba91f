-- What a part of a round has for an output.
use Rattle.std.specs.Prelude.{List, ℕ, []}
use Rattle.output_journal.specs.declared.names.Output.{Output}
use Rattle.output_journal.specs.declared.names.Output.TheVariants as output

-- its packets, its lines of records, and no line of a table
abbrev pub bytes_for : List ℕ → List ℕ → Output → List ℕ
bytes_for packets lines output.Packets = packets
bytes_for packets lines output.Verdicts = lines
bytes_for packets lines output.Versions = []
