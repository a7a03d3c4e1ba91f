-- The options of an interface, one after the other.
use Rattle.std.proofs.Common.{◌≡◌, ℕ, zero, suc, ◌+◌, ◌-◌, ◌<◌, ◌≤◌, ◌==◌, nat_lt, Bool, true, false, if◌then◌else◌, List, [], ◌∷◌, length, drop, take, slice_index, Option, Some, None, Result, Ok, Err, refl, sym, ◌∙◌, ap, subst, arith}
use Rattle.std.specs.List.{list_any}
use Rattle.std.specs.Int.{w16, from_be_bytes, from_le_bytes}
use Rattle.std.proofs.lemmas.List.{drop-drop, drop-take, length-drop, length-take, take-take}
use Rattle.std.proofs.lemmas.Bool.Decides.{nat_tests}
use Rattle.aftr_base.specs.Numbers.{span}
use Rattle.capture_io.specs.Words.{half_at}
use Rattle.capture_io.specs.declared.forms.CaptureBad.{CaptureBad}
use Rattle.capture_io.specs.declared.forms.CaptureBad.TheVariants as bad
use Rattle.capture_io.specs.declared.ng_bad.NgBad.TheVariants as ng
use Rattle.pcapng_io.specs.declared.interface.OptionHead.{OptionHead}
use Rattle.pcapng_io.specs.Interfaces.{BlockOption, first_of, first_resolution, is_bad_resolution, option_at, options_in, options_within, padded, resolution_of, rest_from, value_in, with_first}
use Rattle.pcapng_io.specs.Long.{all_from, with_found}
use Rattle.capture_io.proofs.LawLemmas.{span_front}

abbrev half_of : Bool → List ℕ → ℕ
half_of big two = if big then from_be_bytes w16 two else from_le_bytes w16 two

-- the option at the front, and what stands behind it
abbrev pub front_option : Bool → List ℕ → BlockOption
front_option big left = record { code = half_at big left 0; value = span left 4 (half_at big left 2) }

abbrev pub behind_option : Bool → List ℕ → List ℕ
behind_option big left = drop (4 + padded (half_at big left 2)) left

abbrev options_by : Bool → Bool → Bool → BlockOption → Option (List BlockOption) → Option (List BlockOption)
options_by short end past option later = if short then Some [] else if end then Some [] else if past then None else with_first option later

-- counting more options changes nothing
same_options : (n m : ℕ) (big : Bool) (left : List ℕ) → length left < n → length left < m → options_within n big left ≡ options_within m big left
same_options zero m big left f g = absurd (omega arith)
same_options (suc n) zero big left f g = absurd (omega arith)
same_options (suc n) (suc m) big left f g =
    by_short n m big left (nat_lt (length left) 4) refl
    (λ long. same_options n m big (behind_option big left) (omega (arith, length-drop (4 + padded (half_at big left 2)) left)) (omega (arith, length-drop (4 + padded (half_at big left 2)) left)))
  where
    by_short : (n m : ℕ) (big : Bool) (left : List ℕ) (short : Bool) → nat_lt (length left) 4 ≡ short →
        (4 ≤ length left → options_within n big (behind_option big left) ≡ options_within m big (behind_option big left)) →
        options_within (suc n) big left ≡ options_within (suc m) big left
    by_short n m big left true e rest = rw e refl
    by_short n m big left false e rest =
        ap (λ later. options_by (nat_lt (length left) 4) (half_at big left 0 == 0) (nat_lt (length left) (4 + half_at big left 2)) (front_option big left) later)
        (rest (grind (arith, nat_tests)))

no_options_short : (big : Bool) (left : List ℕ) → length left < 4 → options_in big left ≡ Some []
no_options_short big left few = let short : nat_lt (length left) 4 ≡ true = grind (arith, nat_tests) in rw short refl

no_options_end : (big : Bool) (left : List ℕ) → 4 ≤ length left → half_at big left 0 ≡ 0 → options_in big left ≡ Some []
no_options_end big left some end =
    let long : nat_lt (length left) 4 ≡ false = grind (arith, nat_tests) in
    let last : (half_at big left 0 == 0) ≡ true = grind (arith, nat_tests) in
    rw (long, last) refl

options_past : (big : Bool) (left : List ℕ) → 4 ≤ length left → (half_at big left 0 ≡ 0 → ⊥) → length left < 4 + half_at big left 2 → options_in big left ≡ None
options_past big left some more past =
    let long : nat_lt (length left) 4 ≡ false = grind (arith, nat_tests) in
    let next : (half_at big left 0 == 0) ≡ false = grind (arith, nat_tests) in
    let over : nat_lt (length left) (4 + half_at big left 2) ≡ true = grind (arith, nat_tests) in
    rw (long, next, over) refl

options_step : (big : Bool) (left : List ℕ) → 4 + half_at big left 2 ≤ length left → (half_at big left 0 ≡ 0 → ⊥) →
    options_in big left ≡ with_first (front_option big left) (options_in big (behind_option big left))
options_step big left inside more =
    let long : nat_lt (length left) 4 ≡ false = grind (arith, nat_tests) in
    let next : (half_at big left 0 == 0) ≡ false = grind (arith, nat_tests) in
    let within : nat_lt (length left) (4 + half_at big left 2) ≡ false = grind (arith, nat_tests) in
    let rest : options_within (length left) big (behind_option big left) ≡ options_in big (behind_option big left) =
    same_options (length left) (suc (length (behind_option big left))) big (behind_option big left) (omega (arith, length-drop (4 + padded (half_at big left 2)) left)) (omega arith) in
    rw (long, next, within) (ap (with_first (front_option big left)) rest)

abbrev with_option : BlockOption → Option ℕ
with_option o = if o.code == 9 then Some (slice_index o.value 0) else None

refused_option : (at : ℕ) (o : BlockOption) (later : Option (List BlockOption)) → is_bad_resolution o ≡ true → resolution_of at (with_first o later) ≡ Err (bad.Ng (ng.Options at))
refused_option at o None e = refl
refused_option at o (Some os) e = rw e refl

abbrev listed_by : ℕ → BlockOption → List BlockOption → Bool → Bool → Result (Option ℕ) CaptureBad
listed_by at o os code any = if any then Err (bad.Ng (ng.Options at)) else Ok (if code then Some (slice_index o.value 0) else first_resolution os)

abbrev joined_by : ℕ → BlockOption → List BlockOption → Bool → Bool → Result (Option ℕ) CaptureBad
joined_by at o os code any = with_found (if code then Some (slice_index o.value 0) else None) (if any then Err (bad.Ng (ng.Options at)) else Ok (first_resolution os))

same_by : (at : ℕ) (o : BlockOption) (os : List BlockOption) (code any : Bool) → listed_by at o os code any ≡ joined_by at o os code any
same_by at o os true true = refl
same_by at o os true false = refl
same_by at o os false true = refl
same_by at o os false false = refl

passed_option : (at : ℕ) (o : BlockOption) (later : Option (List BlockOption)) → is_bad_resolution o ≡ false → resolution_of at (with_first o later) ≡ with_found (with_option o) (resolution_of at later)
passed_option at o None e = refl
passed_option at o (Some os) e = rw e (same_by at o os (o.code == 9) (list_any is_bad_resolution os))

found_joined : (found : Option ℕ) (byte : ℕ) (later : Result (Option ℕ) CaptureBad) → with_found found (with_found (Some byte) later) ≡ with_found (Some (first_of found byte)) later
found_joined None byte (Ok later) = refl
found_joined None byte (Err refusal) = refl
found_joined (Some first) byte (Ok later) = refl
found_joined (Some first) byte (Err refusal) = refl

found_none : (found : Option ℕ) (later : Result (Option ℕ) CaptureBad) → with_found found (with_found None later) ≡ with_found found later
found_none None (Ok later) = refl
found_none (Some first) (Ok later) = refl
found_none found (Err refusal) = refl

none_behind : (found : Option ℕ) → with_found found (Ok None) ≡ Ok found
none_behind None = refl
none_behind (Some first) = refl

-- one option, read by itself, and then the others
abbrev Reads : ℕ → Option ℕ → BlockOption → Option (List BlockOption) → Result (Option ℕ) CaptureBad → Type 0
Reads at found o later (Ok next) = with_found found (resolution_of at (with_first o later)) ≡ with_found next (resolution_of at later)
Reads at found o later (Err refusal) = with_found found (resolution_of at (with_first o later)) ≡ Err refusal

one_option : (at : ℕ) (found : Option ℕ) (o : BlockOption) (later : Option (List BlockOption)) → Reads at found o later (value_in at found o)
one_option at found o later = by_code (o.code == 9) refl
  where
    by_count : (one : Bool) → (o.code == 9) ≡ true → (length o.value == 1) ≡ one → Reads at found o later (value_in at found o)
    by_count true c n =
        let fine : is_bad_resolution o ≡ false = rw (c, n) refl in
        let gives : with_option o ≡ Some (slice_index o.value 0) = rw c refl in
        let value : value_in at found o ≡ Ok (Some (first_of found (slice_index o.value 0))) = rw (c, n) refl in
        subst (Reads at found o later) (sym value)
        (ap (with_found found) (passed_option at o later fine ∙ ap (λ x. with_found x (resolution_of at later)) gives) ∙ found_joined found (slice_index o.value 0) (resolution_of at later))
    by_count false c n =
        let wrong : is_bad_resolution o ≡ true = rw (c, n) refl in
        let value : value_in at found o ≡ Err (bad.Ng (ng.Options at)) = rw (c, n) refl in
        subst (Reads at found o later) (sym value) (ap (with_found found) (refused_option at o later wrong))

    by_code : (code : Bool) → (o.code == 9) ≡ code → Reads at found o later (value_in at found o)
    by_code true c = by_count (length o.value == 1) c refl
    by_code false c =
        let fine : is_bad_resolution o ≡ false = rw c refl in
        let gives : with_option o ≡ None = rw c refl in
        let value : value_in at found o ≡ Ok found = rw c refl in
        subst (Reads at found o later) (sym value)
        (ap (with_found found) (passed_option at o later fine ∙ ap (λ x. with_found x (resolution_of at later)) gives) ∙ found_none found (resolution_of at later))

rest_length : (bytes : List ℕ) (place end : ℕ) → end ≤ length bytes → length (rest_from bytes place end) ≡ end - place
rest_length bytes place end within = omega (arith, length-take (end - place) (drop place bytes), length-drop place bytes)

head_same : (big : Bool) (bytes : List ℕ) (place end : ℕ) → place + 4 ≤ end → option_at big (span bytes place 4) ≡ option_at big (rest_from bytes place end)
head_same big bytes place end within =
    let four : span bytes place 4 ≡ take 4 (rest_from bytes place end) = sym (take-take 4 (end - place) (drop place bytes) (omega arith)) in
    ap (option_at big) four
    ∙ (λ i. record { code = ap (half_of big) (span_front (rest_from bytes place end) 4 0 2 (omega arith)) i; count = ap (half_of big) (span_front (rest_from bytes place end) 4 2 2 (omega arith)) i })

drop_all : (n : ℕ) (l : List ℕ) → length l ≤ n → drop n l ≡ []
drop_all zero [] h = refl
drop_all zero (x ∷ l) h = absurd (omega arith)
drop_all (suc n) [] h = refl
drop_all (suc n) (x ∷ l) h = drop_all n l (omega arith)

drop_in_take : (n m : ℕ) (l : List ℕ) (less : Bool) → nat_lt m n ≡ less → drop n (take m l) ≡ take (m - n) (drop n l)
drop_in_take n m l true e =
    let past : m < n = grind (arith, nat_tests) in
    let none : m - n ≡ 0 = omega arith in
    drop_all n (take m l) (omega (arith, length-take m l)) ∙ sym (ap (λ k. take k (drop n l)) none)
drop_in_take n m l false e =
    let within : n ≤ m = grind (arith, nat_tests) in
    let split : m ≡ n + (m - n) = omega arith in
    ap (λ k. drop n (take k l)) split ∙ drop-take n (m - n) l

rest_behind : (bytes : List ℕ) (place end count : ℕ) → drop count (rest_from bytes place end) ≡ rest_from bytes (place + count) end
rest_behind bytes place end count =
    drop_in_take count (end - place) (drop place bytes) (nat_lt (end - place) count) refl
    ∙ (ap (λ n. take n (drop count (drop place bytes))) (omega arith) ∙ ap (λ l. take (end - (place + count)) l) (drop-drop count place bytes))

value_same : (bytes : List ℕ) (place end count : ℕ) → place + 4 + count ≤ end → span bytes (place + 4) count ≡ span (rest_from bytes place end) 4 count
value_same bytes place end count within =
    ap (λ l. take count l) (sym (drop-drop 4 place bytes)) ∙ sym (span_front (drop place bytes) (end - place) 4 count (omega arith))

pub at_end : (big : Bool) (bytes : List ℕ) (at place end : ℕ) (found : Option ℕ) → end < place + 4 → all_from big bytes at place end found ≡ Ok found
at_end big bytes at place end found short =
    ap (λ o. with_found found (resolution_of at o)) (no_options_short big (rest_from bytes place end) (omega (arith, length-take (end - place) (drop place bytes)))) ∙ none_behind found

pub at_last : (big : Bool) (bytes : List ℕ) (at place end : ℕ) (found : Option ℕ) (o : OptionHead) → o ≡ option_at big (span bytes place 4) → end ≤ length bytes → place + 4 ≤ end → o.code ≡ 0 →
    all_from big bytes at place end found ≡ Ok found
at_last big bytes at place end found o is long within none =
    let same : o ≡ option_at big (rest_from bytes place end) = is ∙ head_same big bytes place end within in
    ap (λ x. with_found found (resolution_of at x)) (no_options_end big (rest_from bytes place end) (omega (arith, rest_length bytes place end long)) (sym (ap (λ x. x.code) same) ∙ none)) ∙ none_behind found

pub at_past : (big : Bool) (bytes : List ℕ) (at place end : ℕ) (found : Option ℕ) (o : OptionHead) → o ≡ option_at big (span bytes place 4) → end ≤ length bytes → place + 4 ≤ end → (o.code ≡ 0 → ⊥) → end < place + 4 + o.count →
    all_from big bytes at place end found ≡ Err (bad.Ng (ng.Options at))
at_past big bytes at place end found o is long within more past =
    let same : o ≡ option_at big (rest_from bytes place end) = is ∙ head_same big bytes place end within in
    let code : o.code ≡ half_at big (rest_from bytes place end) 0 = ap (λ x. x.code) same in
    let count : o.count ≡ half_at big (rest_from bytes place end) 2 = ap (λ x. x.count) same in
    ap (λ x. with_found found (resolution_of at x))
    (options_past big (rest_from bytes place end) (omega (arith, rest_length bytes place end long)) (λ z. more (code ∙ z)) (omega (arith, rest_length bytes place end long)))

abbrev pub Follows : Bool → List ℕ → ℕ → ℕ → ℕ → Option ℕ → ℕ → Result (Option ℕ) CaptureBad → Type 0
Follows big bytes at place end found next (Ok later) = all_from big bytes at place end found ≡ all_from big bytes at next end later
Follows big bytes at place end found next (Err refusal) = all_from big bytes at place end found ≡ Err refusal

abbrev pub option_of : OptionHead → List ℕ → ℕ → BlockOption
option_of o bytes place = record { code = o.code; value = span bytes place o.count }

option_same : (big : Bool) (bytes : List ℕ) (place end : ℕ) (o : OptionHead) → o ≡ option_at big (rest_from bytes place end) → place + 4 + o.count ≤ end →
    option_of o bytes (place + 4) ≡ front_option big (rest_from bytes place end)
option_same big bytes place end o same within =
    let rest : List ℕ = rest_from bytes place end in
    let value : span bytes (place + 4) o.count ≡ span rest 4 (half_at big rest 2) = value_same bytes place end o.count within ∙ ap (λ (x : OptionHead). span rest 4 x.count) same in
    λ i. record { code = ap (λ (x : OptionHead). x.code) same i; value = value i }

pub at_option : (big : Bool) (bytes : List ℕ) (at place end next : ℕ) (found : Option ℕ) (o : OptionHead) (read : Result (Option ℕ) CaptureBad) → o ≡ option_at big (span bytes place 4) → end ≤ length bytes →
    (o.code ≡ 0 → ⊥) → place + 4 + o.count ≤ end → next ≡ place + (4 + padded o.count) → value_in at found (option_of o bytes (place + 4)) ≡ read →
    Follows big bytes at place end found next read
at_option big bytes at place end next found o read is long more within n v =
    let rest : List ℕ = rest_from bytes place end in
    let same : o ≡ option_at big rest = is ∙ head_same big bytes place end (omega arith) in
    let code : o.code ≡ half_at big rest 0 = ap (λ x. x.code) same in
    let count : o.count ≡ half_at big rest 2 = ap (λ x. x.count) same in
    let inside : 4 + half_at big rest 2 ≤ length rest = omega (arith, rest_length bytes place end long) in
    let step : options_in big rest ≡ with_first (front_option big rest) (options_in big (behind_option big rest)) = options_step big rest inside (λ z. more (code ∙ z)) in
    let behind : behind_option big rest ≡ rest_from bytes next end =
    rest_behind bytes place end (4 + padded (half_at big rest 2)) ∙ ap (λ k. rest_from bytes k end) (sym (n ∙ ap (λ k. place + (4 + padded k)) count)) in
    let value : value_in at found (front_option big rest) ≡ read = ap (value_in at found) (sym (option_same big bytes place end o same within)) ∙ v in
    by_read read (subst (Reads at found (front_option big rest) (options_in big (behind_option big rest))) value (one_option at found (front_option big rest) (options_in big (behind_option big rest)))) step behind
  where
    by_read : (r : Result (Option ℕ) CaptureBad) → Reads at found (front_option big (rest_from bytes place end)) (options_in big (behind_option big (rest_from bytes place end))) r →
        options_in big (rest_from bytes place end) ≡ with_first (front_option big (rest_from bytes place end)) (options_in big (behind_option big (rest_from bytes place end))) →
        behind_option big (rest_from bytes place end) ≡ rest_from bytes next end → Follows big bytes at place end found next r
    by_read (Ok later) e step behind = ap (λ x. with_found found (resolution_of at x)) step ∙ (e ∙ ap (λ l. with_found later (resolution_of at (options_in big l))) behind)
    by_read (Err refusal) e step behind = ap (λ x. with_found found (resolution_of at x)) step ∙ e

-- before the first option nothing was found
pub none_first : (big : Bool) (bytes : List ℕ) (at place end : ℕ) → resolution_of at (options_in big (rest_from bytes place end)) ≡ all_from big bytes at place end None
none_first big bytes at place end = by_all (resolution_of at (options_in big (rest_from bytes place end)))
  where
    by_all : (r : Result (Option ℕ) CaptureBad) → r ≡ with_found None r
    by_all (Ok later) = refl
    by_all (Err refusal) = refl

-- the head and the value of an option, as they are cut out of bytes
pub head_cut : (big : Bool) (bytes : List ℕ) (place : ℕ) (o : OptionHead) → o ≡ option_at big (take (place + 4 - place) (drop place bytes)) → o ≡ option_at big (span bytes place 4)
head_cut big bytes place o is = let four : place + 4 - place ≡ 4 = omega arith in is ∙ ap (λ n. option_at big (take n (drop place bytes))) four

pub value_cut : (at : ℕ) (found : Option ℕ) (o : OptionHead) (bytes : List ℕ) (place behind : ℕ) (read said : Result (Option ℕ) CaptureBad) → behind ≡ place + o.count →
    read ≡ value_in at found (record { code = o.code; value = take (behind - place) (drop place bytes) }) → read ≡ said → value_in at found (option_of o bytes place) ≡ said
value_cut at found o bytes place behind read said is e s =
    let size : o.count ≡ behind - place = omega (arith, is) in
    let cut : ℕ → BlockOption = λ n. record { code = o.code; value = take n (drop place bytes) } in
    ap (λ n. value_in at found (cut n)) size ∙ (sym e ∙ s)

pub self_start : (l : List ℕ) → take (length l) l ≡ l
self_start [] = refl
self_start (x ∷ l) = ap (λ t. x ∷ t) (self_start l)
