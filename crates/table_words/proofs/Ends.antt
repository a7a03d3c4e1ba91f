-- A search that stops where the key can no longer come.
use Rattle.std.proofs.Common.{◌≡◌, ◌≢◌, ℕ, zero, suc, ◌+◌, ◌-◌, ◌/◌, ◌%◌, ◌<◌, ◌≤◌, false, List, Some, ap, ◌∙◌, inl, inr, arith}
use Rattle.std.proofs.lemmas.Bool.{cases_lt, false_from_ne_true}
use Rattle.binding_rules.specs.Bindings.{owns}
use Rattle.binding_rules.specs.declared.binding.Binding.{Binding}
use Rattle.binding_rules.specs.declared.binding.Want.{Want}
use Rattle.table_words.specs.Spans.{first_at, IsEntryRange, IsBoundary, IsUpperEnd, IsFirstOf, IsKey, IsLike, IsNotFound}

pub rises_by : (words : List ℕ) (from to k : ℕ) → IsEntryRange words from to → from + k < to → first_at words from + k ≤ first_at words (from + k)
rises_by words from to zero s l = let e : from + 0 ≡ from = omega arith in rw e (omega arith)
rises_by words from to (suc k) s l =
    let before : first_at words from + k ≤ first_at words (from + k) = rises_by words from to k s (omega arith) in
    let up : first_at words (from + k) < first_at words (from + suc k) = s.rising (from + k) (from + suc k) (omega arith) l in
    omega (arith, before, up)

pub span_front : (words : List ℕ) (from to end : ℕ) → IsEntryRange words from to → from ≤ end → end ≤ to → IsEntryRange words from end
span_front words from to end s l m = record {
  ordered = l;
  few = omega (arith, s.few);
  within = omega (arith, s.within);
  ascending = λ d e h k. s.ascending d e h (omega arith);
  rising = λ d e h k. s.rising d e h (omega arith);
  shapes = λ e h. s.shapes e (omega arith);
}

pub boundary_whole : (words : List ℕ) (from to first key end at : ℕ) → IsEntryRange words from to → first ≡ first_at words from
    → IsUpperEnd from to first key end → IsBoundary words from end key at → IsBoundary words from to key at
boundary_whole words from to first key end at s here h b = record {
  from_on = b.from_on;
  up_to = omega (arith, b.up_to, h.within);
  below = b.below;
  above = λ e l m. elim (cases_lt e end) [
    | inl inside ↦ b.above e l inside
    | inr behind ↦
        (let k : ℕ = e - from in
        let place : from + k ≡ e = omega (arith, behind, h.some) in
        let up : first_at words from + k ≤ first_at words (from + k) = rises_by words from to k s (omega (arith, place)) in
        let moved : first_at words (from + k) ≡ first_at words e = ap (first_at words) place in
        omega (arith, up, moved, here, h.enough (omega arith), behind))
  ];
}

pub same_like : (n m : ℕ) (x : Binding) → IsLike n x → n / 65536 ≡ m / 65536 → IsLike m x
same_like n m x h e =
    let v4 : n / 4294967296 ≡ m / 4294967296 = omega (arith, e) in
    let offset : n / 16777216 % 128 ≡ m / 16777216 % 128 = omega (arith, e) in
    let size : n / 65536 % 256 ≡ m / 65536 % 256 = ap (λ (j : ℕ). j % 256) e in
    record { v4 = h.v4 ∙ v4; offset = h.offset ∙ offset; length = h.length ∙ size; psid_fits = h.psid_fits }

-- an entry of the shape whose first word is not the key does not own what is wanted
pub not_key : (first key : ℕ) (w : Want) → IsKey first w (Some key) → (word : ℕ) (x : Binding) → word / 65536 ≡ first / 65536 → IsFirstOf word x
    → (word ≡ key → ⊥) → owns w x ≡ false
not_key first key w k word x alike f other = false_from_ne_true (owns w x) (λ o.
    let psid : x.psid ≡ key % 65536 = (k.1 x (same_like word first x f.like alike)).0 o in
    other (omega (arith, alike, k.0, f.psid, psid)))

pub none_before : (words : List ℕ) (from to first key at : ℕ) (w : Want) → IsEntryRange words from to → IsBoundary words from to key at
    → IsKey first w (Some key) → (at < to → first_at words at ≢ key) → IsNotFound words from to first w
none_before words from to first key at w s b k other e x l m alike f = not_key first key w k (first_at words e) x alike f (λ same.
    elim (cases_lt e at) [
      | inl less ↦ (let small : first_at words e < key = b.below e l less in omega (arith, small, same))
      | inr more ↦
          (let up : first_at words at ≤ first_at words e = s.ascending at e more m in
          let least : key ≤ first_at words at = b.above at (omega arith) (omega arith) in
          other (omega arith) (omega (arith, up, least, same)))
    ])
