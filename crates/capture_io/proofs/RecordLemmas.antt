-- What a record's header and its bytes say of the record.
use Rattle.std.proofs.Common.{◌≡◌, ℕ, ◌+◌, ◌-◌, ◌^◌, ◌<◌, ◌≤◌, ◌==◌, nat_lt, min, Bool, true, false, if◌then◌else◌, List, [], ◌∷◌, length, take, drop, Option, Result, Ok, Err, refl, sym, ◌∙◌, ap, subst, arith}
use Rattle.std.proofs.lemmas.List.{drop-drop, length-drop, length-take}
use Rattle.std.proofs.lemmas.Bool.Decides.{nat_tests}
use Rattle.aftr_base.specs.First.{first_true, refused_or}
use Rattle.capture_io.specs.declared.forms.Rec.{Rec}
use Rattle.capture_io.specs.declared.forms.Next.{Next}
use Rattle.capture_io.specs.declared.forms.Next.TheVariants as next
use Rattle.capture_io.specs.declared.forms.CaptureBad.{CaptureBad}
use Rattle.capture_io.specs.declared.forms.CaptureBad.TheVariants as bad
use Rattle.capture_io.specs.declared.record.Head.{Head}
use Rattle.capture_io.specs.Words.{word_at}
use Rattle.capture_io.specs.Record.{captured, record_in, next_in}
use Rattle.capture_io.specs.Head.{head_in}
use Rattle.capture_io.specs.Capture.{Splits}
use Rattle.capture_io.proofs.FrontLemmas.{head_front}

-- the answers, by what the tests gave
abbrev pub next_by : Bool → Bool → Bool → Bool → Bool → ℕ → Rec → Result Next CaptureBad
next_by end many cut long less at r =
    if end then Ok next.End
    else refused_or (first_true ((many, bad.TooMany at) ∷ (cut, bad.CutHeader at) ∷ (long, bad.TooLong at) ∷ (less, bad.CutRecord at) ∷ [])) (next.Rec r)

abbrev head_by : Bool → Bool → Bool → ℕ → Head → Result Head CaptureBad
head_by many cut long at head = refused_or (first_true ((many, bad.TooMany at) ∷ (cut, bad.CutHeader at) ∷ (long, bad.TooLong at) ∷ [])) head

refused_by : (many cut long less : Bool) (at : ℕ) (head : Head) (r : Rec) (refusal : CaptureBad) →
    head_by many cut long at head ≡ Err refusal → next_by false many cut long less at r ≡ Err refusal
refused_by true cut long less at head r refusal e = cc
refused_by false true long less at head r refusal e = cc
refused_by false false true less at head r refusal e = cc
refused_by false false false less at head r refusal e = absurd (cc)

cut_by : (many cut long : Bool) (at : ℕ) (head other : Head) (r : Rec) →
    head_by many cut long at head ≡ Ok other → next_by false many cut long true at r ≡ Err (bad.CutRecord at)
cut_by true cut long at head other r e = absurd (cc)
cut_by false true long at head other r e = absurd (cc)
cut_by false false true at head other r e = absurd (cc)
cut_by false false false at head other r e = refl

whole_by : (many cut long : Bool) (at : ℕ) (head other : Head) (r : Rec) →
    head_by many cut long at head ≡ Ok other → next_by false many cut long false at r ≡ Ok (next.Rec r)
whole_by true cut long at head other r e = absurd (cc)
whole_by false true long at head other r e = absurd (cc)
whole_by false false true at head other r e = absurd (cc)
whole_by false false false at head other r e = refl

head_is_by : (many cut long : Bool) (at : ℕ) (head other : Head) → head_by many cut long at head ≡ Ok other → head ≡ other
head_is_by true cut long at head other e = absurd (cc)
head_is_by false true long at head other e = absurd (cc)
head_is_by false false true at head other e = absurd (cc)
head_is_by false false false at head other e = cc

record_is_by : (end many cut long less : Bool) (at : ℕ) (r s : Rec) → next_by end many cut long less at r ≡ Ok (next.Rec s) → r ≡ s
record_is_by true many cut long less at r s e = absurd (cc)
record_is_by false true cut long less at r s e = absurd (cc)
record_is_by false false true long less at r s e = absurd (cc)
record_is_by false false false true less at r s e = absurd (cc)
record_is_by false false false false true at r s e = absurd (cc)
record_is_by false false false false false at r s e = cc

-- what a record's header says
abbrev pub head_of_left : Bool → List ℕ → Head
head_of_left big left = record { seconds = word_at big left 0; fraction = word_at big left 4; captured = captured big left }

-- the record that is found is the one at the front
pub record_is : (big : Bool) (left : List ℕ) (at number : ℕ) (r : Rec) → next_in big left at number ≡ Ok (next.Rec r) → record_in big left at ≡ r
record_is big left at number r e =
    record_is_by (length left == 0) (number == 2 ^ 31) (nat_lt (length left) 16) (nat_lt 262144 (captured big left)) (nat_lt (length left) (16 + captured big left)) at (record_in big left at) r e

head_is : (big : Bool) (left : List ℕ) (at number : ℕ) (head : Head) → head_in big left at number ≡ Ok head → head_of_left big left ≡ head
head_is big left at number head e =
    head_is_by (number == 2 ^ 31) (nat_lt (length left) 16) (nat_lt 262144 (captured big left)) at (head_of_left big left) head e

refused : (big : Bool) (left : List ℕ) (at number : ℕ) (refusal : CaptureBad) → 0 < length left →
    head_in big left at number ≡ Err refusal → next_in big left at number ≡ Err refusal
refused big left at number refusal some e =
    let more : (length left == 0) ≡ false = grind (arith, nat_tests) in
    rw more (refused_by (number == 2 ^ 31) (nat_lt (length left) 16) (nat_lt 262144 (captured big left)) (nat_lt (length left) (16 + captured big left)) at (head_of_left big left) (record_in big left at) refusal e)

cut : (big : Bool) (left : List ℕ) (at number : ℕ) (head : Head) → 0 < length left →
    head_in big left at number ≡ Ok head → length left < 16 + captured big left → next_in big left at number ≡ Err (bad.CutRecord at)
cut big left at number head some e less =
    let more : (length left == 0) ≡ false = grind (arith, nat_tests) in
    let short : nat_lt (length left) (16 + captured big left) ≡ true = grind (arith, nat_tests) in
    rw (more, short) (cut_by (number == 2 ^ 31) (nat_lt (length left) 16) (nat_lt 262144 (captured big left)) at (head_of_left big left) head (record_in big left at) e)

whole : (big : Bool) (left : List ℕ) (at number : ℕ) (head : Head) → 0 < length left →
    head_in big left at number ≡ Ok head → 16 + captured big left ≤ length left → next_in big left at number ≡ Ok (next.Rec (record_in big left at))
whole big left at number head some e enough =
    let more : (length left == 0) ≡ false = grind (arith, nat_tests) in
    let long : nat_lt (length left) (16 + captured big left) ≡ false = grind (arith, nat_tests) in
    rw (more, long) (whole_by (number == 2 ^ 31) (nat_lt (length left) 16) (nat_lt 262144 (captured big left)) at (head_of_left big left) head (record_in big left at) e)

-- a header that was read, of a place of the file
some_left : (bytes : List ℕ) (at count : ℕ) → count ≡ min 16 (length (drop at bytes)) → (count ≡ 0 → ⊥) → 0 < length (drop at bytes)
some_left bytes at count e some = grind (arith, nat_tests)

head_left : (big : Bool) (bytes read : List ℕ) (at number : ℕ) (answer : Result Head CaptureBad) →
    read ≡ take 16 (drop at bytes) → head_in big read at number ≡ answer → head_in big (drop at bytes) at number ≡ answer
head_left big bytes read at number answer e h =
    sym (head_front big (drop at bytes) at number) ∙ (sym (ap (λ l. head_in big l at number) e) ∙ h)

pub refused_at : (big : Bool) (bytes read : List ℕ) (at number count : ℕ) (refusal : CaptureBad) →
    read ≡ take 16 (drop at bytes) → count ≡ min 16 (length (drop at bytes)) → (count ≡ 0 → ⊥) →
    head_in big read at number ≡ Err refusal → next_in big (drop at bytes) at number ≡ Err refusal
refused_at big bytes read at number count refusal e n some h =
    refused big (drop at bytes) at number refusal (some_left bytes at count n some) (head_left big bytes read at number (Err refusal) e h)

-- where fewer bytes follow the header than it says
less_than : (bytes : List ℕ) (at size : ℕ) → length (take size (drop (at + 16) bytes)) < size → 0 < length (drop at bytes) → 16 ≤ length (drop at bytes) → length (drop at bytes) < 16 + size
less_than bytes at size less some head = omega (arith, length-take size (drop (at + 16) bytes), length-drop (at + 16) bytes, length-drop at bytes)

-- a whole header has 16 bytes
long_by : (many cut long : Bool) (at : ℕ) (head other : Head) → head_by many cut long at head ≡ Ok other → cut ≡ false
long_by true cut long at head other e = absurd (cc)
long_by false true long at head other e = absurd (cc)
long_by false false true at head other e = absurd (cc)
long_by false false false at head other e = refl

head_long : (big : Bool) (left : List ℕ) (at number : ℕ) (head : Head) → head_in big left at number ≡ Ok head → 16 ≤ length left
head_long big left at number head e =
    let cut : nat_lt (length left) 16 ≡ false = long_by (number == 2 ^ 31) (nat_lt (length left) 16) (nat_lt 262144 (captured big left)) at (head_of_left big left) head e in
    grind (arith, nat_tests)

pub cut_at : (big : Bool) (bytes read list : List ℕ) (at number : ℕ) (head : Head) →
    read ≡ take 16 (drop at bytes) → head_in big read at number ≡ Ok head →
    list ≡ take head.captured (drop (at + 16) bytes) → length list < head.captured →
    next_in big (drop at bytes) at number ≡ Err (bad.CutRecord at)
cut_at big bytes read list at number head e h l less =
    let found : head_in big (drop at bytes) at number ≡ Ok head = head_left big bytes read at number (Ok head) e h in
    let long : 16 ≤ length (drop at bytes) = head_long big (drop at bytes) at number head found in
    let same : captured big (drop at bytes) ≡ head.captured = ap (λ k. k.captured) (head_is big (drop at bytes) at number head found) in
    let size : length list ≡ min head.captured (length bytes - (at + 16)) = ap length l ∙ (length-take head.captured (drop (at + 16) bytes) ∙ ap (λ n. min head.captured n) (length-drop (at + 16) bytes)) in
    cut big (drop at bytes) at number head (omega arith) found (omega (arith, length-drop at bytes))

-- the record of a header and of the bytes behind it
abbrev with_bytes : ℕ → List ℕ → Head → Rec
with_bytes at left head = record { seconds = head.seconds; fraction = head.fraction; bytes = take head.captured (drop 16 left); next_at = at + 16 + head.captured }

same_record : (at end : ℕ) (left list : List ℕ) (head : Head) → take head.captured (drop 16 left) ≡ list → at + 16 + head.captured ≡ end →
    with_bytes at left head ≡ record { seconds = head.seconds; fraction = head.fraction; bytes = list; next_at = end }
same_record at end left list head e f = λ i. record { seconds = head.seconds; fraction = head.fraction; bytes = e i; next_at = f i }

pub whole_at : (big : Bool) (bytes read list : List ℕ) (at number end : ℕ) (head : Head) →
    read ≡ take 16 (drop at bytes) → head_in big read at number ≡ Ok head →
    list ≡ take head.captured (drop (at + 16) bytes) → head.captured ≤ length list → end ≡ at + 16 + head.captured →
    next_in big (drop at bytes) at number ≡ Ok (next.Rec (record { seconds = head.seconds; fraction = head.fraction; bytes = list; next_at = end }))
whole_at big bytes read list at number end head e h l enough n =
    let found : head_in big (drop at bytes) at number ≡ Ok head = head_left big bytes read at number (Ok head) e h in
    let long : 16 ≤ length (drop at bytes) = head_long big (drop at bytes) at number head found in
    let is : head_of_left big (drop at bytes) ≡ head = head_is big (drop at bytes) at number head found in
    let same : captured big (drop at bytes) ≡ head.captured = ap (λ k. k.captured) is in
    let size : length list ≡ min head.captured (length bytes - (at + 16)) = ap length l ∙ (length-take head.captured (drop (at + 16) bytes) ∙ ap (λ n. min head.captured n) (length-drop (at + 16) bytes)) in
    let behind : take head.captured (drop 16 (drop at bytes)) ≡ list = ap (λ l. take head.captured l) (drop-drop 16 at bytes) ∙ sym l in
    whole big (drop at bytes) at number head (omega arith) found (omega (arith, length-drop at bytes))
    ∙ ap (λ r. Ok (next.Rec r)) (ap (with_bytes at (drop at bytes)) is ∙ same_record at end (drop at bytes) list head behind (sym n))

-- the file from the next record on is what is left behind this one
pub continued : (big : Bool) (bytes : List ℕ) (at number : ℕ) (r : Rec) → next_in big (drop at bytes) at number ≡ Ok (next.Rec r) → r.next_at ≡ at + 16 + length r.bytes →
    (rs : List Rec) (ending : Option CaptureBad) → Splits big (drop r.next_at bytes) r.next_at (number + 1) rs ending → Splits big (drop at bytes) at number (r ∷ rs) ending
continued big bytes at number r e n rs ending splits =
    let place : r.next_at ≡ at + (16 + length r.bytes) = omega arith in
    let same : drop r.next_at bytes ≡ drop (16 + length r.bytes) (drop at bytes) = ap (λ k. drop k bytes) place ∙ sym (drop-drop (16 + length r.bytes) at bytes) in
    let P : List ℕ → Type 0 = λ l. Splits big l r.next_at (number + 1) rs ending in
    (e, subst P same splits)

pub header_end : (big : Bool) (left : List ℕ) (at number place : ℕ) (r : Rec) → place < at + 16 → next_in big left at number ≡ Ok (next.Rec r) → place < r.next_at
header_end big left at number place r within e = omega (arith, ap (λ x. x.next_at) (record_is big left at number r e))

pub record_end : (big : Bool) (bytes read : List ℕ) (at number place : ℕ) (head : Head) (r : Rec) →
    read ≡ take 16 (drop at bytes) → head_in big read at number ≡ Ok head → place < at + 16 + head.captured →
    next_in big (drop at bytes) at number ≡ Ok (next.Rec r) → place < r.next_at
record_end big bytes read at number place head r e h within f =
    let found : head_in big (drop at bytes) at number ≡ Ok head = head_left big bytes read at number (Ok head) e h in
    let same : captured big (drop at bytes) ≡ head.captured = ap (λ k. k.captured) (head_is big (drop at bytes) at number head found) in
    let end : at + 16 + captured big (drop at bytes) ≡ r.next_at = ap (λ x. x.next_at) (record_is big (drop at bytes) at number r f) in
    omega arith

enough_by : (end many cut long less : Bool) (at : ℕ) (r s : Rec) → next_by end many cut long less at r ≡ Ok (next.Rec s) → less ≡ false
enough_by true many cut long less at r s e = absurd (cc)
enough_by false true cut long less at r s e = absurd (cc)
enough_by false false true long less at r s e = absurd (cc)
enough_by false false false true less at r s e = absurd (cc)
enough_by false false false false true at r s e = absurd (cc)
enough_by false false false false false at r s e = refl

-- the bytes of a record that is found are there
pub record_whole : (big : Bool) (left : List ℕ) (at number : ℕ) (r : Rec) → next_in big left at number ≡ Ok (next.Rec r) → 16 + captured big left ≤ length left
record_whole big left at number r e =
    let whole : nat_lt (length left) (16 + captured big left) ≡ false =
    enough_by (length left == 0) (number == 2 ^ 31) (nat_lt (length left) 16) (nat_lt 262144 (captured big left)) (nat_lt (length left) (16 + captured big left)) at (record_in big left at) r e in
    grind (arith, nat_tests)
