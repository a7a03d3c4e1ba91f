-- Parts in order with one more.
use Rattle.std.proofs.Common.{◌≡◌, ℕ, ◌+◌, ◌-◌, ◌<◌, ◌≤◌, true, false, List, length, insert, sym, ◌∙◌, ap, subst, ⊎_elim, arith}
use Rattle.std.specs.Prelude.{nat_lt}
use Rattle.std.proofs.lemmas.Bool.{cases_lt, cases_eq, lt-ltb, le-ltb}
use Rattle.std.proofs.lemmas.List.Edits.{length-insert, get_or-insert_below, get_or-insert_at, get_or-insert_above}
use Rattle.std.proofs.lemmas.List.Sums.{prefix_len_is}
use Rattle.std.specs.List.{list_any}
use Rattle.reassembly_lane.specs.declared.parts.Part.{Part}
use Rattle.reassembly_lane.specs.Parts.{start, past, clash, no_part}
use Rattle.reassembly_lane.specs.Contexts.{placed}
use Rattle.reassembly_lane.specs.Sound.{part_at, IsPlace, IsSoundPart, IsSound}
use Rattle.reassembly_lane.proofs.Near.{IsBefore, IsFree, offset_in_front, free_from_none}

pub placed_is : (parts : List Part) (part : Part) (place : ℕ) → IsSound parts → IsPlace parts part.offset place → placed part parts ≡ insert parts place part
placed_is parts part place s p =
    ap (λ (i : ℕ). insert parts i part) (prefix_len_is (λ (other : Part). nat_lt other.offset part.offset) parts place no_part p.within
    (λ k h. lt-ltb (part_at parts k).offset part.offset (offset_in_front parts part.offset place k s p h))
    (λ h. le-ltb (part_at parts place).offset part.offset (p.behind h)))

-- ---- the parts with one more, by index
module _ (parts : List Part) (part : Part) (place : ℕ) (w : place ≤ length parts) where
  pub at_below : (i : ℕ) → i < place → part_at (insert parts place part) i ≡ part_at parts i
  at_below i h = get_or-insert_below parts place part no_part i h w

  pub at_place : part_at (insert parts place part) place ≡ part
  at_place = get_or-insert_at parts place part no_part w

  pub at_above : (i : ℕ) → place < i → part_at (insert parts place part) i ≡ part_at parts (i - 1)
  at_above i h =
      let e : (i - 1) + 1 ≡ i = omega arith in
      ap (λ (k : ℕ). part_at (insert parts place part) k) (sym e) ∙ get_or-insert_above parts place part no_part (i - 1) (omega arith) w

  pub longer : length (insert parts place part) ≡ length parts + 1
  longer = length-insert parts place part w

  -- each part of the longer list is an old one or the new one
  pub each_of : (P : Part → Type 0) → ((i : ℕ) → i < length parts → P (part_at parts i)) → P part → (i : ℕ) → i < length (insert parts place part) → P (part_at (insert parts place part) i)
  each_of P old new i l =
      let n : length (insert parts place part) ≡ length parts + 1 = longer in
      ⊎_elim
      (λ (h : i < place). subst P (sym (at_below i h)) (old i (omega arith)))
      (λ (h : place ≤ i).
      ⊎_elim
      (λ (e : i ≡ place). subst P (sym (ap (λ (k : ℕ). part_at (insert parts place part) k) e ∙ at_place)) new)
      (λ (ne : i ≡ place → ⊥). subst P (sym (at_above i (omega arith))) (old (i - 1) (omega arith)))
      (cases_eq i place))
      (cases_lt i place)

  grown_apart : IsSound parts → IsFree parts part place → (i j : ℕ) → i < j → j < length parts + 1 → past (part_at (insert parts place part) i) ≤ start (part_at (insert parts place part) j)
  grown_apart s f i j h l =
      ⊎_elim
      (λ (k : j < place). rw (at_below i (omega arith), at_below j k) (s.apart i j h (omega arith)))
      (λ (k : place ≤ j).
      ⊎_elim
      (λ (e : j ≡ place).
      let g : IsBefore (part_at parts i) part = f.in_front i (omega arith) in
      rw (at_below i (omega arith), e, at_place) g.far)
      (λ (ne : j ≡ place → ⊥).
      ⊎_elim
      (λ (m : i < place). rw (at_below i m, at_above j (omega arith)) (s.apart i (j - 1) (omega arith) (omega arith)))
      (λ (m : place ≤ i).
      ⊎_elim
      (λ (e : i ≡ place).
      let g : IsBefore part (part_at parts (j - 1)) = f.behind (j - 1) (omega arith) (omega arith) in
      rw (e, at_place, at_above j (omega arith)) g.far)
      (λ (nf : i ≡ place → ⊥). rw (at_above i (omega arith), at_above j (omega arith)) (s.apart (i - 1) (j - 1) (omega arith) (omega arith)))
      (cases_eq i place))
      (cases_lt i place))
      (cases_eq j place))
      (cases_lt j place)

  grown_follows : IsSound parts → IsFree parts part place → (i : ℕ) → i + 1 < length parts + 1 → (part_at (insert parts place part) i).more ≡ true
  grown_follows s f i l =
      ⊎_elim
      (λ (h : i < place).
      let g : IsBefore (part_at parts i) part = f.in_front i h in
      rw (at_below i h) g.goes_on)
      (λ (h : place ≤ i).
      ⊎_elim
      (λ (e : i ≡ place).
      let g : IsBefore part (part_at parts place) = f.behind place (omega arith) (omega arith) in
      rw (e, at_place) g.goes_on)
      (λ (ne : i ≡ place → ⊥). rw (at_above i (omega arith)) (s.follows (i - 1) (omega arith)))
      (cases_eq i place))
      (cases_lt i place)

  pub grown_sound : IsSound parts → IsSoundPart part → IsFree parts part place → IsSound (insert parts place part)
  grown_sound s q f = record {
    apart = λ i j h l. grown_apart s f i j h (rw (← longer) l);
    filled = each_of (λ p. 0 < length p.body) s.filled q.filled;
    short = each_of (λ p. past p ≤ 65535) s.short q.short;
    follows = λ i l. grown_follows s f i (rw (← longer) l);
  }

pub with_one_sound : (parts : List Part) (part : Part) (place : ℕ) → IsSound parts → IsSoundPart part → IsPlace parts part.offset place → list_any (clash part) parts ≡ false → IsSound (insert parts place part)
with_one_sound parts part place s q p e = grown_sound parts part place p.within s q (free_from_none parts part place s q p e)
