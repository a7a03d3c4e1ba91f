-- The points of the tables whose lines are whole: no other table was in force for a record that was written.
use Rattle.lwaftr_engine.proofs.Words.{◌≡◌, ℕ, zero, suc, ◌+◌, ◌-◌, ◌<◌, ◌≤◌, Bool, if◌then◌else◌, cond, nat_le, List, [], ◌∷◌, length, take, drop, count_by}
use Rattle.lwaftr_engine.proofs.Words.{slice_index, slice_get, None, refl, sym, ◌∙◌, ap, arith, inl, inr, length-append, le-leb, lt-leb, cases_lt}
use Rattle.lwaftr_engine.proofs.Words.{sum_by-cons, LoadWords, Slot, NoneIsDue, load_lines, named, slot_text, in_force, AreNumbered, is_table, whole_lines}
use Rattle.reload_plan.specs.declared.loads.Slot.TheVariants as slot

abbrev pub one : Bool → ℕ
one b = cond b 1 0

count_cons : (s : Slot) (slots : List Slot) → count_by is_table (s ∷ slots) ≡ one (is_table s) + count_by is_table slots
count_cons s slots = sum_by-cons (λ (t : Slot). cond (is_table t) 1 0) s slots

-- lines that fit are whole
pub lines_fit : (points : List ℕ) (size : ℕ) (loads : List LoadWords) (slots : List Slot) (k : ℕ) → length slots ≡ length loads →
    length (load_lines points (take k (named loads slots))) ≤ size →
    count_by is_table (take k slots) ≤ count_by is_table (take (whole_lines points size (named loads slots)) slots)
lines_fit points size loads slots zero same fit = omega arith
lines_fit points size [] [] (suc k) same fit = omega arith
lines_fit points size [] (s ∷ slots) (suc k) same fit = absurd (omega (arith, same))
lines_fit points size (l ∷ loads) [] (suc k) same fit = absurd (omega (arith, same))
lines_fit points size (l ∷ loads) (s ∷ slots) (suc k) same fit =
    let line : List ℕ = slot_text points l.name s in
    let more = length-append (slot_text points l.name s) (load_lines points (take k (named loads slots))) in
    let rest = lines_fit points (size - length (slot_text points l.name s)) loads slots k (omega (arith, same)) (omega (arith, fit, more)) in
    let whole = le-leb (length (slot_text points l.name s)) size (omega (arith, fit, more)) in
    let N : Bool → ℕ = λ b. if b then suc (whole_lines points (size - length (slot_text points l.name s)) (named loads slots)) else 0 in
    rw (ap N whole) (omega (
      arith,
      rest,
      count_cons s (take k slots),
      count_cons s
          (take (whole_lines points (size - length (slot_text points l.name s)) (named loads slots)) slots),
    ))

none_got : (xs : List ℕ) (k : ℕ) → slice_get xs k ≡ None → length xs ≤ k
none_got [] k is = omega arith
none_got (x ∷ xs) zero is = absurd (cc is)
none_got (x ∷ xs) (suc k) is = omega (arith, none_got xs k is)

-- where no table that is left is in force, those in force are among the first loads
pub printed_few : (before : ℕ) (slots : List Slot) (k : ℕ) (printed : List ℕ) → AreNumbered before slots → NoneIsDue printed (drop k slots) →
    length printed ≤ before + count_by is_table slots →
    length printed ≤ before + count_by is_table (take k slots)
printed_few before [] zero printed numbered none few = few
printed_few before [] (suc k) printed numbered none few = few
printed_few before (slot.Version version ∷ slots) zero printed numbered none few =
    let at : version - 1 ≡ before = omega (arith, numbered.0) in
    omega (arith, none_got printed before (ap (λ (n : ℕ). slice_get printed n) (sym at) ∙ none))
printed_few before (slot.Refused cause ∷ slots) zero printed numbered none few =
    omega (arith, printed_few before slots zero printed numbered none (omega (arith, few, count_cons (slot.Refused cause) slots)))
printed_few before (slot.Version version ∷ slots) (suc k) printed numbered none few =
    omega (
      arith,
      printed_few (before + 1) slots k printed numbered.1 none (omega (arith, few, count_cons (slot.Version version) slots)),
      count_cons
          (slot.Version version) (take k slots),
    )
printed_few before (slot.Refused cause ∷ slots) (suc k) printed numbered none few =
    omega (
      arith,
      printed_few before slots k printed numbered none (omega (arith, few, count_cons (slot.Refused cause) slots)),
      count_cons (slot.Refused cause)
          (take k slots),
    )

-- points that never fall
abbrev pub IsRising : List ℕ → Type 0
IsRising points = (k : ℕ) → k + 1 < length points → slice_index points k ≤ slice_index points (k + 1)

rising_tail : (p : ℕ) (points : List ℕ) → IsRising (p ∷ points) → IsRising points
rising_tail p points rising = λ k inside.
    let same : suc k + 1 ≡ suc (k + 1) = omega arith in
    let next : slice_index (p ∷ points) (suc k + 1) ≡ slice_index (p ∷ points) (suc (k + 1)) = ap (λ (n : ℕ). slice_index (p ∷ points) n) same in
    omega (arith, rising (suc k) (omega (arith, inside)), next)

pub in_force_cons : (p : ℕ) (points : List ℕ) (n : ℕ) → in_force (p ∷ points) n ≡ one (nat_le p n) + in_force points n
in_force_cons p points n = sum_by-cons (λ (q : ℕ). cond (nat_le q n) 1 0) p points

pub is_one : (p n : ℕ) → p ≤ n → one (nat_le p n) ≡ 1
is_one p n less = ap one (le-leb p n less)

pub is_none : (p n : ℕ) → n < p → one (nat_le p n) ≡ 0
is_none p n more = ap one (lt-leb p n more)

none_above : (points : List ℕ) (n : ℕ) → IsRising points → (0 < length points → n < slice_index points 0) → in_force points n ≡ 0
none_above [] n rising first = refl
none_above (p ∷ points) n rising first =
    omega (
      arith,
      in_force_cons p points n,
      is_none p n (first (omega arith)),
      none_above points n (rising_tail p points rising)
          (λ some. omega (arith, first (omega arith), rising 0 (omega (arith, some)))),
    )

-- the first ones of the points say the same of the numbers for which no other is in force
pub in_force_first : (points : List ℕ) (count n : ℕ) → IsRising points → in_force points n ≤ count → in_force (take count points) n ≡ in_force points n
in_force_first [] zero n rising few = refl
in_force_first [] (suc count) n rising few = refl
in_force_first (p ∷ points) zero n rising few = omega (arith, few)
in_force_first (p ∷ points) (suc count) n rising few = elim (cases_lt n p) [
  | inl above ↦
      let rest = none_above points n (rising_tail p points rising) (λ some. omega (arith, above, rising 0 (omega (arith, some)))) in
      omega (
        arith,
        in_force_cons p points n,
        in_force_cons p (take count points) n,
        in_force_first points count n (rising_tail p points rising)
            (omega (arith, rest)),
      )
  | inr below ↦
      omega (
        arith,
        in_force_cons p points n,
        in_force_cons p (take count points) n,
        in_force_first points count n (rising_tail p points rising)
            (omega (arith, few, in_force_cons p points n, is_one p n below)),
      )
]
