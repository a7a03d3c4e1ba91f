use Rattle.std.proofs.Common.{◌≤◌, length}
use denote.Text.{Utf8}
use denote.Shadow.{shadow}
use Rattle.toml.specs.View.{table_view}
use Rattle.binding_file.specs.PlainHeads.{AreMembers}
use Rattle.binding_file.proofs.plain.members_at.Given as goal

abbrev pub invariant-lines : goal.invariant-lines
invariant-lines l = shadow (Utf8 l.rest) × AreMembers l.text (table_view l.table) l.rest

abbrev pub decreases-lines : goal.decreases-lines
decreases-lines l = length l.rest
