-- The sum so far and the words that are left fold to what all the words fold to.
use Rattle.std.proofs.Common.{◌≡◌, ◌+◌, ◌≤◌, length}
use Rattle.aftr_base.specs.Sums.{folded, word_sum}
use Rattle.aftr_base.proofs.sums.sum16.Given as goal

abbrev pub invariant-pieces : goal.invariant-pieces
invariant-pieces l = record {
  same : folded (l.sum + word_sum l.rest) ≡ folded (word_sum l.bytes);
  small : l.sum ≤ 65535;
}

abbrev pub decreases-pieces : goal.decreases-pieces
decreases-pieces l = length l.rest
