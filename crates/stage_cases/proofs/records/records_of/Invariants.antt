use Rattle.std.proofs.Common.{◌≡◌, length, All}
use Rattle.capture_io.specs.Records.{IsWithin}
use Rattle.stage_cases.proofs.records.records_of.Given as goal

abbrev pub invariant-packets : goal.invariant-packets
invariant-packets l = All (IsWithin l.buffer.items) l.places.items × (length l.places.items ≡ l.packet-index)
