-- Points: for each table after the first, how many records had been drawn when it came into force, in order. Points and
-- windows are counted from 0, so that point k is that of the table k + 1, which has window k. All of it is ours.
use Rattle.std.specs.Prelude.{◌≡◌, ℕ, ◌+◌, ◌<◌, ◌≤◌, nat_le, List, length, slice_index, slice_index_or, count_by}
use Rattle.swap_core.specs.Plans.{always}
use Rattle.swap_core.specs.declared.plan.Window.{Window}

-- how many members of the points are at most this number: the version in force at it
abbrev pub in_force : List ℕ → ℕ → ℕ
in_force points number = count_by (λ p. nat_le p number) points

-- The points never fall, none is above the number of records drawn, and each is in its window.
pub record AreInWindows (windows : List Window) (points : List ℕ) (records : ℕ) : Type 0 where
  pub rising : (k : ℕ) → k + 1 < length points → slice_index points k ≤ slice_index points (k + 1)
  pub reached : (k : ℕ) → k < length points → slice_index points k ≤ records
  pub inside : (k : ℕ) → k < length points
      → ((slice_index_or windows k always).earliest ≤ slice_index points k) × (slice_index points k ≤ (slice_index_or windows k always).latest)

-- The points of a run of so many records, at its end: there is one for each window that opens by then, and no other.
pub record AreAllPoints (windows : List Window) (points : List ℕ) (records : ℕ) : Type 0 where
  pub placed : AreInWindows windows points records
  pub each : length points ≡ count_by (λ (w : Window). nat_le w.earliest records) windows
