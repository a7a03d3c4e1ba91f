-- Where refusals come from.
use Rattle.std.proofs.Common.{◌≡◌, ℕ, zero, suc, ◌+◌, ◌≤◌, nat_lt, ◌==◌, Bool, true, false, List, [], ◌∷◌, length, drop, Option, Some, None, Result, Ok, Err, refl, sym, subst, arith, not}
use Rattle.std.specs.Prelude.{◌^◌, if◌then◌else◌}
use Rattle.std.proofs.lemmas.List.{take_all}
use Rattle.aftr_base.specs.First.{first_true, refused_or}
use Rattle.capture_io.specs.declared.forms.CaptureBad.{CaptureBad}
use Rattle.capture_io.specs.declared.forms.CaptureBad.TheVariants as bad
use Rattle.capture_io.specs.declared.forms.Form.{Form}
use Rattle.capture_io.specs.declared.forms.Next.{Next}
use Rattle.capture_io.specs.declared.forms.Next.TheVariants as next
use Rattle.capture_io.specs.declared.rounds.Ending.{Ending}
use Rattle.capture_io.specs.declared.rounds.Ending.TheVariants as ending
use Rattle.capture_io.specs.Fronts.{IsFront}
use Rattle.capture_io.specs.Header.{form_in, has_some_magic, header_in, is_known_link, is_version_2_4}
use Rattle.capture_io.specs.Record.{captured, next_in, record_in}
use Rattle.capture_io.specs.Refusals.{EndsInRecords, IsOfHeader, IsOfRecord}
use Rattle.capture_io.specs.Taken.{Ended}

same_refusal : (T : Type 0) (a b : CaptureBad) → (let r : Result T CaptureBad = Err a in r) ≡ Err b → a ≡ b
same_refusal T a b e = cc e

by_header : (a b c d : Bool) (link : ℕ) (form : Form) (refusal : CaptureBad) →
    refused_or (first_true ((a, bad.CutHeader 0) ∷ (b, bad.Magic) ∷ (c, bad.Version) ∷ (d, bad.Link link) ∷ [])) form ≡ Err refusal → IsOfHeader refusal
by_header true b c d link form refusal e = subst IsOfHeader (same_refusal Form (bad.CutHeader 0) refusal e) refl
by_header false true c d link form refusal e = subst IsOfHeader (same_refusal Form bad.Magic refusal e) tt
by_header false false true d link form refusal e = subst IsOfHeader (same_refusal Form bad.Version refusal e) tt
by_header false false false true link form refusal e = subst IsOfHeader (same_refusal Form (bad.Link link) refusal e) tt
by_header false false false false link form refusal e = absurd (cc e)

-- the file header is refused
pub header_refused : (bytes : List ℕ) (refusal : CaptureBad) → header_in bytes ≡ Err refusal → IsOfHeader refusal
header_refused bytes refusal e =
    by_header (nat_lt (length bytes) 24) (not (has_some_magic bytes)) (not (is_version_2_4 bytes)) (not (is_known_link (form_in bytes).link)) (form_in bytes).link (form_in bytes) refusal e

by_record : (none many cut long short : Bool) (at : ℕ) (whole : Next) (refusal : CaptureBad) → 24 ≤ at →
    (if none then Ok next.End else refused_or (first_true ((many, bad.TooMany at) ∷ (cut, bad.CutHeader at) ∷ (long, bad.TooLong at) ∷ (short, bad.CutRecord at) ∷ [])) whole) ≡ Err refusal → IsOfRecord refusal
by_record true many cut long short at whole refusal far e = absurd (cc e)
by_record false true cut long short at whole refusal far e = subst IsOfRecord (same_refusal Next (bad.TooMany at) refusal e) far
by_record false false true long short at whole refusal far e = subst IsOfRecord (same_refusal Next (bad.CutHeader at) refusal e) far
by_record false false false true short at whole refusal far e = subst IsOfRecord (same_refusal Next (bad.TooLong at) refusal e) far
by_record false false false false true at whole refusal far e = subst IsOfRecord (same_refusal Next (bad.CutRecord at) refusal e) far
by_record false false false false false at whole refusal far e = absurd (cc e)

-- what stands behind it is refused
next_refused : (big : Bool) (left : List ℕ) (at number : ℕ) (refusal : CaptureBad) → 24 ≤ at → next_in big left at number ≡ Err refusal → IsOfRecord refusal
next_refused big left at number refusal far e =
    by_record (length left == 0) (number == 2 ^ 31) (nat_lt (length left) 16) (nat_lt 262144 (captured big left)) (nat_lt (length left) (16 + captured big left)) at (next.Rec (record_in big left at)) refusal far e

-- some bytes in which these stand at a place
abbrev placed_at : ℕ → List ℕ → List ℕ
placed_at zero list = list
placed_at (suc at) list = 0 ∷ placed_at at list

placed_there : (at : ℕ) (list : List ℕ) → drop at (placed_at at list) ≡ list
placed_there zero list = refl
placed_there (suc at) list = placed_there at list

-- records that were taken off a piece end with a refusal of a record
pub ended_in_records : (big : Bool) (piece : List ℕ) (last : Bool) (at used number : ℕ) (end : Option Ending) → 24 ≤ at → Ended big piece last at used number end → EndsInRecords end
ended_in_records big piece last at used number None far ended = tt
ended_in_records big piece last at used number (Some ending.End) far ended = tt
ended_in_records big piece last at used number (Some ending.ReadFault) far ended = tt
ended_in_records big piece last at used number (Some (ending.Bad refusal)) far ended =
    let bytes : List ℕ = placed_at at piece in
    let there : drop at bytes ≡ piece = placed_there at piece in
    let F : List ℕ → Type 0 = λ left. IsFront piece last left in
    let front : IsFront piece last (drop at bytes) = subst F (sym there) (record { start = take_all (length piece) piece (omega arith); whole = λ is. refl }) in
    next_refused big (drop (at + used) bytes) (at + used) number refusal (omega (arith, far)) (ended bytes front)
