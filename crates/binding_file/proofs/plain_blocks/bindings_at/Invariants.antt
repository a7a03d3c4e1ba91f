use Rattle.std.proofs.Common.{◌≡◌, ◌≤◌, length, vec_len}
use denote.Text.{Utf8}
use denote.Shadow.{shadow}
use Rattle.binding_file.specs.PlainBlocks.{AreBlocks}
use Rattle.binding_file.proofs.plain_blocks.bindings_at.Given as goal

abbrev pub invariant-bindings : goal.invariant-bindings
invariant-bindings l = shadow (Utf8 l.rest) × (vec_len l.bindings ≤ 16777216) × AreBlocks l.text l.bindings.items l.rest

abbrev pub decreases-bindings : goal.decreases-bindings
decreases-bindings l = length l.rest
