use Rattle.std.proofs.Common.{◌≤◌, length}
use denote.Text.{Utf8}
use denote.Shadow.{shadow}
use Rattle.binding_file.specs.PlainBlocks.{IsBlock}
use Rattle.binding_file.proofs.plain_blocks.held_at.Given as goal

abbrev pub invariant-lines : goal.invariant-lines
invariant-lines l = shadow (Utf8 l.rest) × (length l.rest ≤ length l.text) × IsBlock l.text l.held l.rest

abbrev pub decreases-lines : goal.decreases-lines
decreases-lines l = length l.rest
