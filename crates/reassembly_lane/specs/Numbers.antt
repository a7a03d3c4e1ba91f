-- Numbers told in order.
use Rattle.std.specs.Prelude.{ℕ, List, IsPermutation}
use Rattle.std.specs.List.Sorted.{IsNonDecreasing}

-- these numbers, ascending
pub record IsAscending (numbers sorted : List ℕ) : Type 0 where
  pub same : IsPermutation numbers sorted
  pub ascending : IsNonDecreasing sorted
