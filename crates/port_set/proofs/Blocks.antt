-- A filter over numbers in blocks of one size B, that keeps the same row of M numbers, from s * M on, in each block that
-- it does not pass over.
use Rattle.std.proofs.Common.{◌≡◌, ℕ, zero, suc, ◌+◌, ◌-◌, ◌*◌, ◌/◌, ◌%◌, ◌<◌, ◌≤◌, Bool, true, false, eqb, ◌&&◌, List, [], ◌++◌, map, filter, ap, ap₂, sym, ◌∙◌, arith, suc-mul, add-mul, ne_eqb, eq-eqb}
use Rattle.std.proofs.Math.Nat.{zero-mul, zero-add}
use Rattle.std.specs.List.{range_with_len}
use Rattle.std.proofs.lemmas.List.{map-append, append-nil}
use Rattle.std.proofs.lemmas.List.Elements.{filter-append}
use Rattle.std.proofs.lemmas.Bool.{and_left, and_right, and_from}
use Rattle.std.proofs.lemmas.Nat.{div_below, div-mul-add, le-div, div-add-mod', mod_below}
use Rattle.port_set.proofs.Rows.{range_cut, filter_all, filter_none, map_moved}

-- a row in three parts, of which the test keeps the middle one
middle_kept : (f : ℕ → Bool) (x b m e : ℕ)
    → ((p : ℕ) → x ≤ p → p < x + b → f p ≡ false)
    → ((p : ℕ) → x + b ≤ p → p < (x + b) + m → f p ≡ true)
    → ((p : ℕ) → (x + b) + m ≤ p → p < ((x + b) + m) + e → f p ≡ false)
    → filter f (range_with_len x (b + (m + e))) ≡ range_with_len (x + b) m
middle_kept f x b m e before within after =
    ap (filter f) (range_cut x b (m + e)) ∙ filter-append f (range_with_len x b) (range_with_len (x + b) (m + e))
    ∙ ap₂ (λ (u v : List ℕ). u ++ v) (filter_none f x b before)
    (ap (filter f) (range_cut (x + b) m e)
    ∙ filter-append f (range_with_len (x + b) m) (range_with_len ((x + b) + m) e)
    ∙ ap₂ (λ (u v : List ℕ). u ++ v) (filter_all f (x + b) m within) (filter_none f ((x + b) + m) e after)
    ∙ append-nil (range_with_len (x + b) m))

-- `f` asks for the row s of a block, and `g` which blocks count
module _ (f g : ℕ → Bool) (B M s : ℕ) (row : 0 < M) (fits : s * M + M ≤ B)
    (asks : (i r : ℕ) → r < B → f (i * B + r) ≡ (eqb (r / M) s && g i)) where
  -- the answer at a number of the block i
  asked : (i p : ℕ) → i * B ≤ p → p < i * B + B → f p ≡ (eqb ((p - i * B) / M) s && g i)
  asked i p l u =
      let e : p ≡ i * B + (p - i * B) = omega arith in
      ap f e ∙ asks i (p - i * B) (omega arith)

  block_kept : (i : ℕ) → g i ≡ true → filter f (range_with_len (i * B) B) ≡ range_with_len (i * B + s * M) M
  block_kept i counts =
      let e : B ≡ s * M + (M + (B - (s * M + M))) = omega arith in
      ap (λ (n : ℕ). filter f (range_with_len (i * B) n)) e
      ∙ middle_kept f (i * B) (s * M) M (B - (s * M + M))
      (λ p l u. let below : (p - i * B) / M < s = div_below (p - i * B) M s row (omega arith) in
      asked i p l (omega arith) ∙ and_left _ _ (ne_eqb ((p - i * B) / M) s (λ e. absurd (omega arith))))
      (λ p l u. let at : (p - i * B) ≡ s * M + (p - (i * B + s * M)) = omega arith in
      let is : (p - i * B) / M ≡ s = ap (λ (n : ℕ). n / M) at ∙ div-mul-add s M (p - (i * B + s * M)) (omega arith) in
      asked i p (omega arith) (omega arith) ∙ and_from _ _ (eq-eqb ((p - i * B) / M) s is) counts)
      (λ p l u. let above : suc s ≤ (p - i * B) / M = le-div (suc s) (p - i * B) M row (rw suc-mul (omega arith)) in
      asked i p (omega arith) (omega arith) ∙ and_left _ _ (ne_eqb ((p - i * B) / M) s (λ e. absurd (omega arith))))

  -- no number of the first blocks is kept, where none of them counts
  first_lost : (first : ℕ) → ((i : ℕ) → i < first → g i ≡ false) → filter f (range_with_len 0 (first * B)) ≡ []
  first_lost first lost = filter_none f 0 (first * B) (λ p l u.
      let block : 0 < B = omega arith in
      let at : (p / B) * B + p % B ≡ p = div-add-mod' p B in
      let i : p / B < first = div_below p B first block (omega arith) in
      let r : p % B < B = mod_below p B block in
      ap f (sym at) ∙ asks (p / B) (p % B) r ∙ and_right _ _ (lost (p / B) i))

  -- of `count` blocks from the block `first` on the test keeps the rows, which `place` gives one after another
  blocks_kept : (place : ℕ → ℕ) (first : ℕ)
      → ((i : ℕ) → first ≤ i → g i ≡ true)
      → ((q r : ℕ) → r < M → place (q * M + r) ≡ ((q + first) * B + s * M) + r)
      → (count : ℕ) → filter f (range_with_len (first * B) (count * B)) ≡ map place (range_with_len 0 (count * M))
  blocks_kept place first kept places zero =
      ap (λ (n : ℕ). filter f (range_with_len (first * B) n)) (zero-mul B)
      ∙ sym (ap (λ (n : ℕ). map place (range_with_len 0 n)) (zero-mul M))
  blocks_kept place first kept places (suc count) =
      let start : first * B + count * B ≡ (count + first) * B = omega (arith, add-mul count first B) in
      let block : filter f (range_with_len (first * B + count * B) B) ≡ map place (range_with_len (0 + count * M) M) =
      ap (λ (x : ℕ). filter f (range_with_len x B)) start
      ∙ block_kept (count + first) (kept (count + first) (omega arith))
      ∙ sym (map_moved place (0 + count * M) ((count + first) * B + s * M) M (λ p l u.
      let at : p ≡ count * M + (p - (0 + count * M)) = omega arith in
      ap place at ∙ places count (p - (0 + count * M)) (omega arith))) in
      ap (λ (n : ℕ). filter f (range_with_len (first * B) n)) (suc-mul count B)
      ∙ ap (filter f) (range_cut (first * B) (count * B) B)
      ∙ filter-append f (range_with_len (first * B) (count * B)) (range_with_len (first * B + count * B) B)
      ∙ ap₂ (λ (u v : List ℕ). u ++ v) (blocks_kept place first kept places count) block
      ∙ sym (map-append place (range_with_len 0 (count * M)) (range_with_len (0 + count * M) M))
      ∙ sym (ap (map place) (range_cut 0 (count * M) M))
      ∙ sym (ap (λ (n : ℕ). map place (range_with_len 0 n)) (suc-mul count M))

  -- the same over all numbers below the end of the last block
  pub filter_is_places : (place : ℕ → ℕ) (first count n : ℕ)
      → ((i : ℕ) → i < first → g i ≡ false) → ((i : ℕ) → first ≤ i → g i ≡ true)
      → ((q r : ℕ) → r < M → place (q * M + r) ≡ ((q + first) * B + s * M) + r)
      → n ≡ first * B + count * B
      → filter f (range_with_len 0 n) ≡ map place (range_with_len 0 (count * M))
  filter_is_places place first count n lost kept places e =
      ap (λ (m : ℕ). filter f (range_with_len 0 m)) e
      ∙ ap (filter f) (range_cut 0 (first * B) (count * B))
      ∙ filter-append f (range_with_len 0 (first * B)) (range_with_len (0 + first * B) (count * B))
      ∙ ap₂ (λ (u v : List ℕ). u ++ v) (first_lost first lost)
      (ap (λ (x : ℕ). filter f (range_with_len x (count * B))) (zero-add (first * B))
      ∙ blocks_kept place first kept places count)
