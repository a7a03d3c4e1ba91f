-- The sum so far and the words that are left fold to what all the words fold to.
use Rattle.std.proofs.Common.{◌≡◌, ◌+◌, ◌*◌, ◌≤◌, length}
use Rattle.aftr_base.specs.Sums.{folded, word_sum}
use Rattle.aftr_base.proofs.sums.partial_sum.Given as goal

abbrev pub invariant-blocks-2 : goal.invariant-blocks-2
invariant-blocks-2 l = record {
  same : folded (l.sum + word_sum l.rest) ≡ folded (word_sum l.piece);
  small : l.sum + 1073741824 * length l.rest ≤ 1073741824 * 65536;
}

abbrev pub decreases-blocks-2 : goal.decreases-blocks-2
decreases-blocks-2 l = length l.rest

abbrev pub invariant-words : goal.invariant-words
invariant-words l = record {
  same : folded (l.sum + word_sum l.rest) ≡ folded (word_sum l.piece);
  small : l.sum + 1073741824 * length l.rest ≤ 1073741824 * 65536;
}

abbrev pub decreases-words : goal.decreases-words
decreases-words l = length l.rest
