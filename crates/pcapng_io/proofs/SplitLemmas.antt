-- How bytes are split into packets, and what an answer of the reader says of it.
use Rattle.std.proofs.Common.{◌≡◌, ℕ, zero, suc, ◌+◌, ◌-◌, ◌^◌, ◌<◌, ◌≤◌, nat_lt, Bool, true, false, List, [], ◌∷◌, length, drop, Option, Some, None, Result, Ok, Err, refl, sym, ◌∙◌, ap, subst, arith}
use Rattle.std.proofs.lemmas.List.{drop-drop, length-drop}
use Rattle.aftr_io.specs.Contents.{Contents, content, Told}
use Rattle.capture_io.specs.declared.forms.Rec.{Rec}
use Rattle.capture_io.specs.declared.forms.Next.{Next}
use Rattle.capture_io.specs.declared.forms.Next.TheVariants as next
use Rattle.capture_io.specs.declared.forms.CaptureBad.{CaptureBad}
use Rattle.capture_io.specs.declared.forms.CaptureBad.TheVariants as bad
use Rattle.capture_io.specs.declared.ng_bad.NgBad.TheVariants as ng
use Rattle.capture_io.specs.declared.forms.CaptureError.{CaptureError}
use Rattle.capture_io.specs.declared.forms.CaptureError.TheVariants as error
use Rattle.pcapng_io.specs.declared.block.Block.{Block}
use Rattle.pcapng_io.specs.declared.block.Block.TheVariants as block
use Rattle.pcapng_io.specs.declared.block.Passed.{Passed}
use Rattle.pcapng_io.specs.Seen.{Seen}
use Rattle.pcapng_io.specs.Blocks.{block_in, record_of, seen_after, seen_behind, size_of}
use Rattle.pcapng_io.specs.Captures.{Ends, Gives, next_in, next_within, Splits, Step, step_by}
use Rattle.pcapng_io.specs.Files.{left_at}
use Rattle.pcapng_io.specs.Answers.{Continues, IsNext}
use Rattle.pcapng_io.proofs.WalkLemmas.{end_of, next_behind}

abbrev behind_of : Seen → Step → Seen
behind_of d (Gives r behind) = behind
behind_of d Ends = d

-- a packet's record ends where the reader then stands
end_within : (n number : ℕ) (seen : Seen) (left : List ℕ) (r : Rec) (behind : Seen) → next_within n number seen left ≡ Ok (Gives r behind) → r.next_at ≡ behind.known.at
end_within zero number seen left r behind e = absurd (cc)
end_within (suc n) number seen left r behind e =
    by_block n number seen left r behind (block_in seen left number) refl e (λ p f. end_within n number (seen_after seen p) (drop (size_of p) left) r behind f)
  where
    by_block : (n number : ℕ) (seen : Seen) (left : List ℕ) (r : Rec) (behind : Seen) (b : Result Block CaptureBad) → block_in seen left number ≡ b →
        step_by (next_within n number) seen left (block_in seen left number) ≡ Ok (Gives r behind) →
        ((p : Passed) → next_within n number (seen_after seen p) (drop (size_of p) left) ≡ Ok (Gives r behind) → r.next_at ≡ behind.known.at) → r.next_at ≡ behind.known.at
    by_block n number seen left r behind (Err refusal) b e later =
        let none : step_by (next_within n number) seen left (block_in seen left number) ≡ Err refusal = ap (step_by (next_within n number) seen left) b in absurd (cc)
    by_block n number seen left r behind (Ok block.End) b e later =
        let none : step_by (next_within n number) seen left (block_in seen left number) ≡ Ok Ends = ap (step_by (next_within n number) seen left) b in absurd (cc)
    by_block n number seen left r behind (Ok (block.Packet p)) b e later =
        let gives : step_by (next_within n number) seen left (block_in seen left number) ≡ Ok (Gives (record_of seen.known left p) (seen_behind seen p)) = ap (step_by (next_within n number) seen left) b in
        let same : Gives (record_of seen.known left p) (seen_behind seen p) ≡ Gives r behind = cc in
        let end : seen.known.at + p.total ≡ r.next_at = ap end_of same in
        let stands : seen_behind seen p ≡ behind = ap (behind_of seen) same in
        sym end ∙ ap (λ (s : Seen). s.known.at) stands
    by_block n number seen left r behind (Ok (block.Passed p)) b e later =
        let passes : step_by (next_within n number) seen left (block_in seen left number) ≡ next_within n number (seen_after seen p) (drop (size_of p) left) = ap (step_by (next_within n number) seen left) b in
        later p (sym passes ∙ e)

pub record_end : (seen : Seen) (left : List ℕ) (number : ℕ) (r : Rec) (behind : Seen) → next_in seen left number ≡ Ok (Gives r behind) → r.next_at ≡ behind.known.at
record_end seen left number r behind e = end_within (suc (length left)) number seen left r behind e

-- the file from the packet's end on is what is left behind it
pub split_on : (old now : Seen) (bytes : List ℕ) (number : ℕ) (r : Rec) → next_in old (drop old.known.at bytes) number ≡ Ok (Gives r now) → (rs : List Rec) (ending : Option CaptureBad) →
    Splits now (drop now.known.at bytes) (number + 1) rs ending → Splits old (drop old.known.at bytes) number (r ∷ rs) ending
split_on old now bytes number r e rs ending splits =
    let far : old.known.at + 12 ≤ r.next_at = next_behind old (drop old.known.at bytes) number r now e in
    let end : r.next_at ≡ now.known.at = record_end old (drop old.known.at bytes) number r now e in
    let place : now.known.at ≡ old.known.at + (now.known.at - old.known.at) = omega (arith, far, end) in
    let same : drop now.known.at bytes ≡ drop (now.known.at - old.known.at) (drop old.known.at bytes) =
    ap (λ n. drop n bytes) place ∙ sym (drop-drop (now.known.at - old.known.at) old.known.at bytes) in
    (now, e, subst (λ l. Splits now l (number + 1) rs ending) same splits)

pub continued : (result : Result Next CaptureError) (old now : Seen) (bytes : List ℕ) (number : ℕ) → IsNext result now (next_in old (drop old.known.at bytes) number) → Continues result old now bytes number
continued (Ok (next.Rec r)) old now bytes number e = λ rs ending splits. split_on old now bytes number r e rs ending splits
continued (Ok next.End) old now bytes number e = e
continued (Err (error.Bad refusal)) old now bytes number e = e
continued (Err error.ReadFault) old now bytes number e = tt
continued (Err error.OutOfMemory) old now bytes number e = tt

pub continued_told : (held : Option Contents) (name : List ℕ) (result : Result Next CaptureError) (old now : Seen) (number : ℕ) → Told held (λ m. IsNext result now (next_in old (left_at m name old.known.at) number)) →
    Told held (λ m. Continues result old now (content m name) number)
continued_told None name result old now number e = tt
continued_told (Some m) name result old now number e = continued result old now (content m name) number e

-- bytes are split in one way
pub one_way : (seen : Seen) (left : List ℕ) (number : ℕ) (rs others : List Rec) (ending other : Option CaptureBad) → Splits seen left number rs ending → Splits seen left number others other → (rs ≡ others) × (ending ≡ other)
one_way seen left number [] [] None None p q = (refl, refl)
one_way seen left number [] [] None (Some b) p q = absurd (cc)
one_way seen left number [] [] (Some a) None p q = absurd (cc)
one_way seen left number [] [] (Some a) (Some b) p q = (refl, cc)
one_way seen left number [] (s ∷ ss) None other p q = let f : next_in seen left number ≡ Ok (Gives s q.0) = q.1 in absurd (cc)
one_way seen left number [] (s ∷ ss) (Some a) other p q = let f : next_in seen left number ≡ Ok (Gives s q.0) = q.1 in absurd (cc)
one_way seen left number (r ∷ rs) [] ending None p q = let e : next_in seen left number ≡ Ok (Gives r p.0) = p.1 in absurd (cc)
one_way seen left number (r ∷ rs) [] ending (Some b) p q = let e : next_in seen left number ≡ Ok (Gives r p.0) = p.1 in absurd (cc)
one_way seen left number (r ∷ rs) (s ∷ ss) ending other p q =
    let e : next_in seen left number ≡ Ok (Gives r p.0) = p.1 in
    let f : next_in seen left number ≡ Ok (Gives s q.0) = q.1 in
    let same : Gives s q.0 ≡ Gives r p.0 = cc in
    let first : s ≡ r = ap (record_in r) same in
    let behind : q.0 ≡ p.0 = ap (behind_of seen) same in
    let rest : (rs ≡ ss) × (ending ≡ other) =
    one_way p.0 (drop (p.0.known.at - seen.known.at) left) (number + 1) rs ss ending other p.2 (subst (λ (b : Seen). Splits b (drop (b.known.at - seen.known.at) left) (number + 1) ss other) behind q.2) in
    (cc, rest.1)
  where
    record_in : Rec → Step → Rec
    record_in d (Gives x b) = x
    record_in d Ends = d

-- all bytes are split in some way
abbrev pub Split : Seen → List ℕ → ℕ → Type 0
Split seen left number = (rs : List Rec) × (ending : Option CaptureBad) × Splits seen left number rs ending

some_left : (seen : Seen) (left : List ℕ) (number : ℕ) (r : Rec) (behind : Seen) → next_in seen left number ≡ Ok (Gives r behind) → 0 < length left
some_left seen [] number r behind e = absurd (by_far (nat_lt (2 ^ 62) seen.known.at) refl)
  where
    by_far : (far : Bool) → nat_lt (2 ^ 62) seen.known.at ≡ far → ⊥
    by_far true f = let none : next_in seen [] number ≡ Err (bad.Ng (ng.Far seen.known.at)) = rw f refl in absurd (cc)
    by_far false f = let none : next_in seen [] number ≡ Ok Ends = rw f refl in absurd (cc)
some_left seen (b ∷ left) number r behind e = omega arith

split_step : (most : ℕ) (seen : Seen) (left : List ℕ) (number : ℕ) → length left ≤ most + 1 → ((behind : Seen) (rest : List ℕ) (count : ℕ) → length rest ≤ most → Split behind rest count) →
    (found : Result Step CaptureBad) → next_in seen left number ≡ found → Split seen left number
split_step most seen left number within shorter (Ok Ends) e = ([], None, e)
split_step most seen left number within shorter (Err refusal) e = ([], Some refusal, e)
split_step most seen left number within shorter (Ok (Gives r behind)) e =
    let some : 0 < length left = some_left seen left number r behind e in
    let far : seen.known.at + 12 ≤ r.next_at = next_behind seen left number r behind e in
    let end : r.next_at ≡ behind.known.at = record_end seen left number r behind e in
    let rest : Split behind (drop (behind.known.at - seen.known.at) left) (number + 1) =
    shorter behind (drop (behind.known.at - seen.known.at) left) (number + 1) (omega (arith, far, end, length-drop (behind.known.at - seen.known.at) left)) in
    (r ∷ rest.0, rest.1, (behind, e, rest.2))

split_within : (most : ℕ) (seen : Seen) (left : List ℕ) (number : ℕ) → length left ≤ most → Split seen left number
split_within zero seen left number within = by_found (next_in seen left number) refl
  where
    by_found : (found : Result Step CaptureBad) → next_in seen left number ≡ found → Split seen left number
    by_found (Ok Ends) e = ([], None, e)
    by_found (Err refusal) e = ([], Some refusal, e)
    by_found (Ok (Gives r behind)) e = absurd (let some : 0 < length left = some_left seen left number r behind e in omega arith)
split_within (suc most) seen left number within = split_step most seen left number (omega arith) (λ behind rest count few. split_within most behind rest count few) (next_in seen left number) refl

pub some_way : (seen : Seen) (left : List ℕ) (number : ℕ) → Split seen left number
some_way seen left number = split_within (length left) seen left number (omega arith)
