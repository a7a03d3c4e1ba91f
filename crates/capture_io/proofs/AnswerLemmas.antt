-- From the bytes that were read to what the file holds, where that is told; and which read failed.
use Rattle.std.proofs.Common.{◌≡◌, ℕ, ◌+◌, ◌<◌, ◌≤◌, min, Bool, true, false, List, [], ◌∷◌, ◌++◌, length, take, drop, Option, Some, None, Result, Ok, Err, refl, sym, ◌∙◌, ap, subst}
use Rattle.std.proofs.Math.Seq.{take-add}
use Rattle.aftr_io.specs.declared.outside.Fault.{Fault}
use Rattle.aftr_io.specs.declared.outside.Fault.TheVariants as fault
use Rattle.aftr_io.specs.Contents.{Contents, content, Told}
use Rattle.aftr_io.specs.Outside.{OnlyReads, Readable, has_failed}
use Rattle.aftr_io.proofs.OutsideLemmas.{reads_wider}
use Rattle.capture_io.specs.declared.forms.Form.{Form}
use Rattle.capture_io.specs.declared.forms.Rec.{Rec}
use Rattle.capture_io.specs.declared.forms.Next.{Next}
use Rattle.capture_io.specs.declared.forms.Next.TheVariants as next
use Rattle.capture_io.specs.declared.forms.CaptureBad.{CaptureBad}
use Rattle.capture_io.specs.declared.forms.CaptureBad.TheVariants as bad
use Rattle.capture_io.specs.declared.forms.CaptureError.{CaptureError}
use Rattle.capture_io.specs.declared.record.Head.{Head}
use Rattle.capture_io.specs.Answers.{error_of, is_read_fault, IsBeforeEnd}
use Rattle.capture_io.specs.Header.{header_in}
use Rattle.capture_io.specs.Head.{head_in}
use Rattle.capture_io.specs.Record.{next_in}
use Rattle.capture_io.specs.Capture.{Splits}
use Rattle.capture_io.proofs.FrontLemmas.{header_front}
use Rattle.capture_io.proofs.RecordLemmas.{continued, cut_at, header_end, record_end, refused_at, whole_at}

-- the header of a file that was read is that of the file
pub header_told : (held : Option Contents) (name read : List ℕ) (answer : Result Form CaptureBad) →
    Told held (λ m. read ≡ take 24 (drop 0 (content m name))) → header_in read ≡ answer → Told held (λ m. header_in (content m name) ≡ answer)
header_told None name read answer e h = tt
header_told (Some m) name read answer e h = sym (header_front (content m name)) ∙ (sym (ap header_in e) ∙ h)

-- what stands behind the first four bytes, where fewer may be there
behind_four : (bytes : List ℕ) → drop (length (take 4 bytes)) bytes ≡ drop 4 bytes
behind_four [] = refl
behind_four (a ∷ []) = refl
behind_four (a ∷ b ∷ []) = refl
behind_four (a ∷ b ∷ c ∷ []) = refl
behind_four (a ∷ b ∷ c ∷ d ∷ rest) = refl

-- the same, where its first four bytes were read before the others
pub header_behind_told : (held : Option Contents) (name first rest header : List ℕ) (answer : Result Form CaptureBad) → Told held (λ m. first ≡ take 4 (content m name)) →
    Told held (λ m. rest ≡ take 20 (drop (length first) (content m name))) → header ≡ first ++ rest → header_in header ≡ answer → Told held (λ m. header_in (content m name) ≡ answer)
header_behind_told None name first rest header answer f r joined h = tt
header_behind_told (Some m) name first rest header answer f r joined h =
    let four : drop (length first) (content m name) ≡ drop 4 (content m name) = ap (λ l. drop (length l) (content m name)) f ∙ behind_four (content m name) in
    let behind : rest ≡ take 20 (drop 4 (content m name)) = r ∙ ap (take 20) four in
    let all : header ≡ take 24 (content m name) = joined ∙ ((λ i. f i ++ behind i) ∙ sym (take-add 4 20 (content m name))) in
    sym (header_front (content m name)) ∙ (sym (ap header_in all) ∙ h)

pub refused_told : (held : Option Contents) (name : List ℕ) (big : Bool) (read : List ℕ) (at number count : ℕ) (refusal : CaptureBad) →
    Told held (λ m. read ≡ take 16 (drop at (content m name))) → Told held (λ m. count ≡ min 16 (length (drop at (content m name)))) → (count ≡ 0 → ⊥) →
    head_in big read at number ≡ Err refusal → Told held (λ m. next_in big (drop at (content m name)) at number ≡ Err refusal)
refused_told None name big read at number count refusal e n some h = tt
refused_told (Some m) name big read at number count refusal e n some h = refused_at big (content m name) read at number count refusal e n some h

-- what is told of the same files
pub told_same : (after held : Option Contents) (P : Contents → Type 0) → after ≡ held → Told after P → Told held P
told_same after held P same told = let Q : Option Contents → Type 0 = λ h. Told h P in subst Q same told

pub cut_told : (held : Option Contents) (name : List ℕ) (big : Bool) (read list : List ℕ) (at number : ℕ) (head : Head) →
    Told held (λ m. read ≡ take 16 (drop at (content m name))) → head_in big read at number ≡ Ok head →
    Told held (λ m. list ≡ take head.captured (drop (at + 16) (content m name))) → length list < head.captured →
    Told held (λ m. next_in big (drop at (content m name)) at number ≡ Err (bad.CutRecord at))
cut_told None name big read list at number head e h l less = tt
cut_told (Some m) name big read list at number head e h l less = cut_at big (content m name) read list at number head e h l less

pub whole_told : (held : Option Contents) (name : List ℕ) (big : Bool) (read list : List ℕ) (at number end : ℕ) (head : Head) →
    Told held (λ m. read ≡ take 16 (drop at (content m name))) → head_in big read at number ≡ Ok head →
    Told held (λ m. list ≡ take head.captured (drop (at + 16) (content m name))) → head.captured ≤ length list → end ≡ at + 16 + head.captured →
    Told held (λ m. next_in big (drop at (content m name)) at number ≡ Ok (next.Rec (record { seconds = head.seconds; fraction = head.fraction; bytes = list; next_at = end })))
whole_told None name big read list at number end head e h l enough n = tt
whole_told (Some m) name big read list at number end head e h l enough n = whole_at big (content m name) read list at number end head e h l enough n

pub continued_told : (held : Option Contents) (name : List ℕ) (big : Bool) (at number : ℕ) (r : Rec) →
    Told held (λ m. next_in big (drop at (content m name)) at number ≡ Ok (next.Rec r)) → r.next_at ≡ at + 16 + length r.bytes →
    Told held (λ m. (rs : List Rec) (ending : Option CaptureBad) → Splits big (drop r.next_at (content m name)) r.next_at (number + 1) rs ending →
    Splits big (drop at (content m name)) at number (r ∷ rs) ending)
continued_told None name big at number r e n = tt
continued_told (Some m) name big at number r e n = continued big (content m name) at number r e n

-- a place in a record's header is before the record's end
pub in_header : (held : Option Contents) (name : List ℕ) (big : Bool) (at number place : ℕ) → place < at + 16 → IsBeforeEnd held name big at number place
in_header None name big at number place within = tt
in_header (Some m) name big at number place within = λ r e. header_end big (drop at (content m name)) at number place r within e

-- so is a place among its bytes
pub in_bytes : (held : Option Contents) (name : List ℕ) (big : Bool) (read : List ℕ) (at number place : ℕ) (head : Head) →
    Told held (λ m. read ≡ take 16 (drop at (content m name))) → head_in big read at number ≡ Ok head →
    place < at + 16 + head.captured → IsBeforeEnd held name big at number place
in_bytes None name big read at number place head e h within = tt
in_bytes (Some m) name big read at number place head e h within = λ r f. record_end big (content m name) read at number place head r e h within f

-- a read that failed, as the answer tells it
fault_inside : (T : Type 0) (fault : Fault) (name : List ℕ) (P Q : ℕ → Type 0) (a b : Readable) → ((place : ℕ) → P place → Q place) →
    OnlyReads (has_failed {T = T} (Err fault)) name P a b → OnlyReads (is_read_fault {T = Next} (Err (error_of fault))) name Q a b
fault_inside T fault.Failed name P Q a b wider reads = reads_wider true name P Q a b wider reads
fault_inside T fault.OutOfMemory name P Q a b wider reads = reads_wider false name P Q a b wider reads

-- the same behind reads that did not fail
pub failed_inside : (T : Type 0) (result : Result Next CaptureError) (fault : Fault) (name : List ℕ) (P Q : ℕ → Type 0) (a b c : Readable) →
    result ≡ Err (error_of fault) → b ≡ a → ((place : ℕ) → P place → Q place) →
    OnlyReads (has_failed {T = T} (Err fault)) name P b c → OnlyReads (is_read_fault result) name Q a c
failed_inside T result fault name P Q a b c is same wider reads =
    let R : Result Next CaptureError → Type 0 = λ r. OnlyReads (is_read_fault r) name Q a c in
    let S : Readable → Type 0 = λ o. OnlyReads (is_read_fault {T = Next} (Err (error_of fault))) name Q o c in
    subst R (sym is) (subst S same (fault_inside T fault name P Q b c wider reads))
