-- Parts that do not overlap cover all where they have as many bytes as the last one's end says.
use Rattle.std.proofs.Common.{◌≡◌, ℕ, zero, suc, ◌+◌, ◌-◌, ◌<◌, ◌≤◌, ◌==◌, Bool, true, false, ◌&&◌, cond, List, [], ◌∷◌, length, take, refl, sym, ◌∙◌, ap, ⊎_elim, add-one, arith, Some, None}
use Rattle.std.proofs.lemmas.Bool.Decides.{nat_tests}
use Rattle.std.proofs.lemmas.Bool.{cases_lt, cases_eq, false≢true, ne_eqb}
use Rattle.std.proofs.Common.{eq-eqb}
use Rattle.std.proofs.lemmas.List.{take_all}
use Rattle.std.proofs.lemmas.List.Folds.{list_any_none, list_any_at}
use Rattle.std.proofs.lemmas.List.Elements.{All-from_get_or}
use Rattle.std.proofs.lemmas.List.Sums.{sum_by_more}
use Rattle.std.specs.List.{list_any}
use Rattle.reassembly_lane.specs.declared.parts.Part.{Part}
use Rattle.reassembly_lane.specs.Parts.{start, past, holds, covered, end_of, no_part}
use Rattle.reassembly_lane.specs.Sound.{part_at, IsSound, total_size}

-- where the first k parts end
abbrev pub reach : List Part → ℕ → ℕ
reach parts zero = 0
reach parts (suc k) = past (part_at parts k)

size_more : (parts : List Part) (k : ℕ) → k < length parts → total_size (take (suc k) parts) ≡ total_size (take k parts) + length (part_at parts k).body
size_more parts k h = rw (← add-one) (sum_by_more (λ part. length part.body) parts k no_part h)

-- each part begins where those in front of it end, or behind
reach_start : (parts : List Part) → IsSound parts → (k : ℕ) → k < length parts → reach parts k ≤ start (part_at parts k)
reach_start parts s zero h = omega arith
reach_start parts s (suc k) h = s.apart k (suc k) (omega arith) h

pub size_reach : (parts : List Part) → IsSound parts → (k : ℕ) → k ≤ length parts → total_size (take k parts) ≤ reach parts k
size_reach parts s zero h = omega arith
size_reach parts s (suc k) h =
    let ih : total_size (take k parts) ≤ reach parts k = size_reach parts s k (omega arith) in
    let st : reach parts k ≤ start (part_at parts k) = reach_start parts s k (omega arith) in
    let m : total_size (take (suc k) parts) ≡ total_size (take k parts) + length (part_at parts k).body = size_more parts k (omega arith) in
    omega arith

pub reach_small : (parts : List Part) → IsSound parts → (k : ℕ) → k ≤ length parts → reach parts k ≤ 65535
reach_small parts s zero h = omega arith
reach_small parts s (suc k) h = s.short k (omega arith)

size_all : (parts : List Part) → total_size (take (length parts) parts) ≡ total_size parts
size_all parts = ap total_size (take_all (length parts) parts (omega arith))

pub size_small : (parts : List Part) → IsSound parts → total_size parts ≤ 65535
size_small parts s =
    let e : total_size (take (length parts) parts) ≡ total_size parts = size_all parts in
    let r : total_size (take (length parts) parts) ≤ reach parts (length parts) = size_reach parts s (length parts) (omega arith) in
    let m : reach parts (length parts) ≤ 65535 = reach_small parts s (length parts) (omega arith) in
    omega arith

-- no gap in front of each part
pub record IsTight (parts : List Part) : Type 0 where
  pub tight : (k : ℕ) → k ≤ length parts → total_size (take k parts) ≡ reach parts k

tight_below : (parts : List Part) → IsSound parts → total_size parts ≡ reach parts (length parts) → (m k : ℕ) → k + m ≡ length parts → total_size (take k parts) ≡ reach parts k
tight_below parts s e zero k h =
    let n : length parts ≡ k = omega arith in
    ap (λ (i : ℕ). total_size (take i parts)) (sym n) ∙ size_all parts ∙ e ∙ ap (reach parts) n
tight_below parts s e (suc m) k h =
    let up : total_size (take (suc k) parts) ≡ reach parts (suc k) = tight_below parts s e m (suc k) (omega arith) in
    let st : reach parts k ≤ start (part_at parts k) = reach_start parts s k (omega arith) in
    let le : total_size (take k parts) ≤ reach parts k = size_reach parts s k (omega arith) in
    let m : total_size (take (suc k) parts) ≡ total_size (take k parts) + length (part_at parts k).body = size_more parts k (omega arith) in
    omega arith

pub tight_from_size : (parts : List Part) → IsSound parts → total_size parts ≡ reach parts (length parts) → IsTight parts
tight_from_size parts s e = record { tight = λ k h. tight_below parts s e (length parts - k) k (omega arith) }

-- so each part begins where those in front of it end
pub tight_start : (parts : List Part) → IsTight parts → (k : ℕ) → k < length parts → start (part_at parts k) ≡ reach parts k
tight_start parts t k h =
    let a : total_size (take k parts) ≡ reach parts k = t.tight k (omega arith) in
    let b : total_size (take (suc k) parts) ≡ reach parts (suc k) = t.tight (suc k) (omega arith) in
    let m : total_size (take (suc k) parts) ≡ total_size (take k parts) + length (part_at parts k).body = size_more parts k h in
    omega arith

-- ---- what covers
pub covered_at : (parts : List Part) (end place : ℕ) → covered parts end ≡ true → place < end → list_any (holds place) parts ≡ true
covered_at parts zero place e h = absurd (omega arith)
covered_at parts (suc end) place e h =
    ⊎_elim
    (λ (k : place ≡ end). rw k (both_left (list_any (holds end) parts) (covered parts end) e))
    (λ (k : place ≡ end → ⊥). covered_at parts end place (both_right (list_any (holds end) parts) (covered parts end) e) (omega arith))
    (cases_eq place end)
  where
    both_left : (a b : Bool) → (a && b) ≡ true → a ≡ true
    both_left true b e = refl
    both_left false b e = e

    both_right : (a b : Bool) → (a && b) ≡ true → b ≡ true
    both_right true b e = e
    both_right false b e = absurd (false≢true e)

pub covered_from : (parts : List Part) (end : ℕ) → ((place : ℕ) → place < end → list_any (holds place) parts ≡ true) → covered parts end ≡ true
covered_from parts zero each = refl
covered_from parts (suc end) each = rw (each end (omega arith)) (covered_from parts end (λ place h. each place (omega arith)))

holds_is : (place : ℕ) (part : Part) → start part ≤ place → place < past part → holds place part ≡ true
holds_is place part a b = grind (arith, nat_tests)

-- the part that holds a place
pub record IsHeld (parts : List Part) (count place : ℕ) : Type 0 where
  pub index : ℕ
  pub below : index < count
  pub from : start (part_at parts index) ≤ place
  pub before : place < past (part_at parts index)

pub holder : (parts : List Part) → IsTight parts → (k place : ℕ) → k ≤ length parts → place < reach parts k → IsHeld parts k place
holder parts t zero place h l = absurd (omega arith)
holder parts t (suc k) place h l =
    ⊎_elim
    (λ (m : place < reach parts k).
    let g : IsHeld parts k place = holder parts t k place (omega arith) m in
    let b : g.index < k = g.below in
    record { index = g.index; below = omega arith; from = g.from; before = g.before })
    (λ (m : reach parts k ≤ place).
    let e : start (part_at parts k) ≡ reach parts k = tight_start parts t k (omega arith) in
    record { index = k; below = omega arith; from = omega arith; before = l })
    (cases_lt place (reach parts k))

covered_from_tight : (parts : List Part) → IsTight parts → covered parts (reach parts (length parts)) ≡ true
covered_from_tight parts t =
    covered_from parts (reach parts (length parts)) (λ place h.
    let g : IsHeld parts (length parts) place = holder parts t (length parts) place (omega arith) h in
    list_any_at (holds place) parts g.index no_part g.below (holds_is place (part_at parts g.index) g.from g.before))

not_before : (place : ℕ) (part : Part) → place < start part → holds place part ≡ false
not_before place part h = grind (arith, nat_tests)

not_behind : (place : ℕ) (part : Part) → past part ≤ place → holds place part ≡ false
not_behind place part h = grind (arith, nat_tests)

-- nothing holds the place behind the first k parts, where the next one begins later
gap : (parts : List Part) → IsSound parts → (k : ℕ) → k < length parts → reach parts k < start (part_at parts k) → list_any (holds (reach parts k)) parts ≡ false
gap parts s k l h =
    list_any_none (holds (reach parts k)) parts (All-from_get_or (λ part. holds (reach parts k) part ≡ false) parts no_part (λ i m.
    ⊎_elim
    (λ (f : i < k). not_behind (reach parts k) (part_at parts i) (reach_above parts s k i f (omega arith)))
    (λ (f : k ≤ i). not_before (reach parts k) (part_at parts i) (start_above parts s k i f m h))
    (cases_lt i k)))
  where
    reach_above : (parts : List Part) → IsSound parts → (k i : ℕ) → i < k → k ≤ length parts → past (part_at parts i) ≤ reach parts k
    reach_above parts s zero i f l = absurd (omega arith)
    reach_above parts s (suc k) i f l =
        ⊎_elim
        (λ (e : i ≡ k). rw e (omega arith))
        (λ (ne : i ≡ k → ⊥).
        let far : past (part_at parts i) ≤ start (part_at parts k) = s.apart i k (omega arith) (omega arith) in
        omega arith)
        (cases_eq i k)

    start_above : (parts : List Part) → IsSound parts → (k i : ℕ) → k ≤ i → i < length parts → reach parts k < start (part_at parts k) → reach parts k < start (part_at parts i)
    start_above parts s k i f m h =
        ⊎_elim
        (λ (e : i ≡ k). rw e h)
        (λ (ne : i ≡ k → ⊥).
        let far : past (part_at parts k) ≤ start (part_at parts i) = s.apart k i (omega arith) m in
        omega arith)
        (cases_eq i k)

reach_rises : (parts : List Part) → IsSound parts → (k m : ℕ) → k ≤ m → m ≤ length parts → reach parts k ≤ reach parts m
reach_rises parts s k zero h l = rw (le_zero k h) (omega arith)
  where
    le_zero : (k : ℕ) → k ≤ 0 → k ≡ 0
    le_zero k h = omega arith
reach_rises parts s k (suc m) h l =
    ⊎_elim
    (λ (e : k ≡ suc m). rw e (omega arith))
    (λ (ne : k ≡ suc m → ⊥).
    let ih : reach parts k ≤ reach parts m = reach_rises parts s k m (omega arith) (omega arith) in
    let st : reach parts m ≤ start (part_at parts m) = reach_start parts s m (omega arith) in
    omega arith)
    (cases_eq k (suc m))

tight_if_covered : (parts : List Part) → IsSound parts → covered parts (reach parts (length parts)) ≡ true → (k : ℕ) → k ≤ length parts → total_size (take k parts) ≡ reach parts k
tight_if_covered parts s e zero h = refl
tight_if_covered parts s e (suc k) h =
    let ih : total_size (take k parts) ≡ reach parts k = tight_if_covered parts s e k (omega arith) in
    let st : reach parts k ≤ start (part_at parts k) = reach_start parts s k (omega arith) in
    let m : total_size (take (suc k) parts) ≡ total_size (take k parts) + length (part_at parts k).body = size_more parts k (omega arith) in
    let full : 0 < length (part_at parts k).body = s.filled k (omega arith) in
    let up : reach parts (suc k) ≤ reach parts (length parts) = reach_rises parts s (suc k) (length parts) h (omega arith) in
    ⊎_elim
    (λ (g : reach parts k < start (part_at parts k)).
    absurd (false≢true (sym (gap parts s k (omega arith) g) ∙ covered_at parts (reach parts (length parts)) (reach parts k) e (omega arith))))
    (λ (g : start (part_at parts k) ≤ reach parts k). omega arith)
    (cases_lt (reach parts k) (start (part_at parts k)))

pub tight_from_covered : (parts : List Part) → IsSound parts → covered parts (reach parts (length parts)) ≡ true → IsTight parts
tight_from_covered parts s e = record { tight = tight_if_covered parts s e }

-- ---- the test by sizes
pub covered_by_sizes : (parts : List Part) → IsSound parts → covered parts (reach parts (length parts)) ≡ (total_size parts == reach parts (length parts))
covered_by_sizes parts s =
    ⊎_elim
    (λ (e : total_size parts ≡ reach parts (length parts)). covered_from_tight parts (tight_from_size parts s e) ∙ sym (eq-eqb (total_size parts) (reach parts (length parts)) e))
    (λ (ne : total_size parts ≡ reach parts (length parts) → ⊥).
    by_covered (covered parts (reach parts (length parts))) refl ne)
    (cases_eq (total_size parts) (reach parts (length parts)))
  where
    by_covered : (b : Bool) → covered parts (reach parts (length parts)) ≡ b → (total_size parts ≡ reach parts (length parts) → ⊥) → covered parts (reach parts (length parts)) ≡ (total_size parts == reach parts (length parts))
    by_covered true e ne = absurd (ne (sym (size_all parts) ∙ (tight_from_covered parts s e).tight (length parts) (omega arith)))
    by_covered false e ne = e ∙ sym (ne_eqb (total_size parts) (reach parts (length parts)) ne)

-- the end of parts of which all but the last go on
pub end_of_last : (parts : List Part) (n : ℕ) → suc n ≡ length parts → ((i : ℕ) → i + 1 < length parts → (part_at parts i).more ≡ true) → end_of parts ≡ cond (part_at parts n).more None (Some (past (part_at parts n)))
end_of_last [] n e f = absurd (omega arith)
end_of_last (p ∷ []) zero e f = refl
end_of_last (p ∷ []) (suc n) e f = absurd (omega arith)
end_of_last (p ∷ q ∷ ps) zero e f = absurd (omega arith)
end_of_last (p ∷ q ∷ ps) (suc n) e f =
    let m : p.more ≡ true = f 0 (omega arith) in
    rw m (end_of_last (q ∷ ps) n (omega arith) (λ i l. f (suc i) (omega arith)))

-- the same by what the parts reach
pub last_end : (parts : List Part) (n : ℕ) → suc n ≡ length parts → IsSound parts → end_of parts ≡ cond (part_at parts n).more None (Some (reach parts (length parts)))
last_end parts n e s = end_of_last parts n e s.follows ∙ ap (λ (k : ℕ). cond (part_at parts n).more None (Some (reach parts k))) e
