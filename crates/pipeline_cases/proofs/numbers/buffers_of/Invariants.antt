use Rattle.std.proofs.Common.{length, ◌<◌}
use Rattle.pipeline_cases.proofs.numbers.buffers_of.Given as goal

abbrev pub invariant-more : goal.invariant-more
invariant-more l = 0 < length l.buffers.items
