-- The points of a plan's windows.
use Rattle.std.proofs.Common.{◌≡◌, ℕ, zero, suc, ◌+◌, ◌-◌, ◌<◌, ◌≤◌, ◌⊎◌, Bool, cond, nat_le, List, [], ◌∷◌, length, count_by, get_or, slice_index, subst, sym, ap, arith, inl, inr, le-leb}
use borrow.Author.Tests.{lt-leb}
use Rattle.std.proofs.lemmas.List.Sums.{sum_by-cons}
use Rattle.swap_core.specs.Plans.{Tables, IsPlan, always, window}
use Rattle.swap_core.specs.Points.{AreInWindows, AreAllPoints}
use Rattle.swap_core.specs.declared.plan.Window.{Window}
use Rattle.swap_core.proofs.PlanLemmas.{window_at}

-- a point is in the window of its table
pub in_window_of : (p : Tables) (points : List ℕ) (records : ℕ) → AreInWindows p.windows points records → (k : ℕ) → k < length points
    → ((window p (k + 1)).earliest ≤ slice_index points k) × (slice_index points k ≤ (window p (k + 1)).latest)
in_window_of p points records h k l =
    let P : Window → Type 0 = λ w. (w.earliest ≤ slice_index points k) × (slice_index points k ≤ w.latest) in
    subst P (sym (window_at p k)) (h.inside k l)

-- the first m windows open by then, and none behind them
front_opens : (windows : List Window) (m n : ℕ) → m ≤ length windows
    → ((k : ℕ) → k < m → (get_or windows k always).earliest ≤ n)
    → ((k : ℕ) → m ≤ k → k < length windows → n < (get_or windows k always).earliest)
    → count_by (λ (w : Window). nat_le w.earliest n) windows ≡ m
front_opens [] m n l early late = omega arith
front_opens (w ∷ ws) zero n l early late =
    let first : (let k : ℕ = cond (nat_le w.earliest n) 1 0 in k) ≡ 0 =
    ap (λ (t : Bool). let k : ℕ = cond t 1 0 in k) (lt-leb w.earliest n (late 0 (omega arith) (omega arith))) in
    let rest : count_by (λ (w : Window). nat_le w.earliest n) ws ≡ 0 =
    front_opens ws 0 n (omega arith) (λ k m. absurd (omega arith)) (λ k _ m. late (suc k) (omega arith) (omega arith)) in
    omega (arith, sum_by-cons (λ (v : Window). cond (nat_le v.earliest n) 1 0) w ws)
front_opens (w ∷ ws) (suc m) n l early late =
    let first : (let k : ℕ = cond (nat_le w.earliest n) 1 0 in k) ≡ 1 =
    ap (λ (t : Bool). let k : ℕ = cond t 1 0 in k) (le-leb w.earliest n (early 0 (omega arith))) in
    let rest : count_by (λ (w : Window). nat_le w.earliest n) ws ≡ m =
    front_opens ws m n (omega arith) (λ k i. early (suc k) (omega arith)) (λ k i j. late (suc k) (omega arith) (omega arith)) in
    omega (arith, sum_by-cons (λ (v : Window). cond (nat_le v.earliest n) 1 0) w ws)

module _ (p : Tables) (h : IsPlan p) where
  -- the windows open in order
  opens_later : (i d : ℕ) → i + d < length p.windows → (get_or p.windows i always).earliest ≤ (get_or p.windows (i + d) always).earliest
  opens_later i zero l =
      let same : i + 0 ≡ i = omega arith in
      let equal : (get_or p.windows (i + 0) always).earliest ≡ (get_or p.windows i always).earliest =
      ap (λ (n : ℕ). (get_or p.windows n always).earliest) same in
      omega arith
  opens_later i (suc d) l =
      let same : i + d + 1 ≡ i + suc d = omega arith in
      let inside : i + d + 1 < length p.windows = omega arith in
      let before : (get_or p.windows i always).earliest ≤ (get_or p.windows (i + d) always).earliest = opens_later i d (omega arith) in
      let equal : (get_or p.windows (i + d + 1) always).earliest ≡ (get_or p.windows (i + suc d) always).earliest =
      ap (λ (n : ℕ). (get_or p.windows n always).earliest) same in
      omega (arith, (h.rising (i + d) inside).0)

  pub settled_points : (points : List ℕ) (records : ℕ) → length points < length p.tables → AreInWindows p.windows points records
      → (length p.tables ≤ length points + 1) ⊎ (records < (window p (length points + 1)).earliest)
      → AreAllPoints p.windows points records
  settled_points points records few placed last =
      record { placed = placed; each = sym (front_opens p.windows (length points) records (omega (arith, h.paired)) early late) }
    where
      early : (k : ℕ) → k < length points → (get_or p.windows k always).earliest ≤ records
      early k l = omega (arith, (placed.inside k l).0, placed.reached k l)

      late : (k : ℕ) → length points ≤ k → k < length p.windows → records < (get_or p.windows k always).earliest
      late k l m =
          elim last [
            | inl none ↦ absurd (omega (arith, h.paired))
            | inr waits ↦
                let gap : length points + (k - length points) ≡ k = omega arith in
                let opens : (window p (length points + 1)).earliest ≡ (get_or p.windows (length points) always).earliest =
                ap (λ (w : Window). w.earliest) (window_at p (length points)) in
                let equal : (get_or p.windows (length points + (k - length points)) always).earliest ≡ (get_or p.windows k always).earliest =
                ap (λ (n : ℕ). (get_or p.windows n always).earliest) gap in
                omega (arith, opens_later (length points) (k - length points) (omega arith))
          ]
