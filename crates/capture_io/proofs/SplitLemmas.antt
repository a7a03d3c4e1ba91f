-- Lemmas on how bytes are split into records.
use Rattle.std.proofs.Common.{◌≡◌, ℕ, zero, suc, ◌+◌, ◌<◌, ◌≤◌, Bool, List, [], ◌∷◌, length, drop, Option, Some, None, Result, Ok, Err, refl, subst, arith}
use Rattle.std.proofs.lemmas.List.{length-drop}
use Rattle.capture_io.specs.declared.forms.Rec.{Rec}
use Rattle.capture_io.specs.declared.forms.Next.{Next}
use Rattle.capture_io.specs.declared.forms.Next.TheVariants as next
use Rattle.capture_io.specs.declared.forms.CaptureBad.{CaptureBad}
use Rattle.capture_io.specs.Record.{next_in}
use Rattle.capture_io.specs.Capture.{Splits}

same_rest : (big : Bool) (left : List ℕ) (number : ℕ) (r s : Rec) (rs : List Rec) (ending : Option CaptureBad) → s ≡ r →
    Splits big (drop (16 + length s.bytes) left) s.next_at (number + 1) rs ending →
    Splits big (drop (16 + length r.bytes) left) r.next_at (number + 1) rs ending
same_rest big left number r s rs ending same splits =
    let P : Rec → Type 0 = λ x. Splits big (drop (16 + length x.bytes) left) x.next_at (number + 1) rs ending in
    subst P same splits

-- bytes are split in one way
pub one_way : (big : Bool) (left : List ℕ) (at number : ℕ) (rs others : List Rec) (ending other : Option CaptureBad) →
    Splits big left at number rs ending → Splits big left at number others other → (rs ≡ others) × (ending ≡ other)
one_way big left at number [] [] None None p q = (refl, refl)
one_way big left at number [] [] None (Some b) p q = absurd (cc)
one_way big left at number [] [] (Some a) None p q = absurd (cc)
one_way big left at number [] [] (Some a) (Some b) p q = (refl, cc)
one_way big left at number [] (s ∷ ss) None other p q = absurd (cc)
one_way big left at number [] (s ∷ ss) (Some a) other p q = absurd (cc)
one_way big left at number (r ∷ rs) [] ending None p q = absurd (cc)
one_way big left at number (r ∷ rs) [] ending (Some b) p q = absurd (cc)
one_way big left at number (r ∷ rs) (s ∷ ss) ending other p q =
    let same : s ≡ r = cc in
    let rest : (rs ≡ ss) × (ending ≡ other) = one_way big (drop (16 + length r.bytes) left) r.next_at (number + 1) rs ss ending other p.1 (same_rest big left number r s ss other same q.1) in
    (cc, rest.1)

-- how some bytes are split
abbrev pub Split : Bool → List ℕ → ℕ → ℕ → Type 0
Split big left at number = (rs : List Rec) × (ending : Option CaptureBad) × Splits big left at number rs ending

-- where a record is, something is left
left_of_record : (big : Bool) (left : List ℕ) (at number : ℕ) (r : Rec) → next_in big left at number ≡ Ok (next.Rec r) → 0 < length left
left_of_record big [] at number r e = absurd (cc)
left_of_record big (b ∷ left) at number r e = omega arith

split_step : (most : ℕ) (big : Bool) (left : List ℕ) (at number : ℕ) → length left ≤ most + 1 →
    ((rest : List ℕ) (place count : ℕ) → length rest ≤ most → Split big rest place count) →
    (found : Result Next CaptureBad) → next_in big left at number ≡ found → Split big left at number
split_step most big left at number within shorter (Ok next.End) e = ([], None, e)
split_step most big left at number within shorter (Err refusal) e = ([], Some refusal, e)
split_step most big left at number within shorter (Ok (next.Rec r)) e =
    let some : 0 < length left = left_of_record big left at number r e in
    let rest : Split big (drop (16 + length r.bytes) left) r.next_at (number + 1) = shorter (drop (16 + length r.bytes) left) r.next_at (number + 1) (omega (arith, length-drop (16 + length r.bytes) left)) in
    (r ∷ rest.0, rest.1, (e, rest.2))

split_within : (most : ℕ) (big : Bool) (left : List ℕ) (at number : ℕ) → length left ≤ most → Split big left at number
split_within zero big [] at number within = ([], None, refl)
split_within zero big (b ∷ left) at number within = absurd (omega arith)
split_within (suc most) big left at number within =
    split_step most big left at number (omega arith) (λ rest place count. split_within most big rest place count) (next_in big left at number) refl

-- all bytes are split in some way
pub some_way : (big : Bool) (left : List ℕ) (at number : ℕ) → Split big left at number
some_way big left at number = split_within (length left) big left at number (omega arith)
