-- Lemmas on the options that all pieces carry: one by one, and no more of them than there were.
use Rattle.std.proofs.Common.{◌≡◌, ℕ, zero, suc, ◌+◌, ◌-◌, ◌%◌, ◌≤◌, ◌==◌, ◌||◌, Bool, true, false, List, [], ◌∷◌, ◌++◌, length, take, drop, nat_lt, refl, sym, ◌∙◌, ap, arith, append_assoc, slice_index}
use Rattle.std.specs.Prelude.{if◌then◌else◌}
use Rattle.std.proofs.lemmas.List.{length-drop, length-append, length-take-le, drop-drop}
use Rattle.std.proofs.lemmas.Bool.{ltb-false, or_parts}
use Rattle.fragmenter.specs.Kept.{option_len, is_broken, ends, if_copied, kept_within, kept, padding, copied_of}
use Rattle.fragmenter.proofs.CutLemmas.{both}

one-or-two : (test : Bool) → 1 ≤ (if test then 1 else 2)
one-or-two true = omega arith
one-or-two false = omega arith

-- the first option, where there is one
record HasOption (left : List ℕ) : Type 0 where
  pub least : 1 ≤ option_len left
  pub within : option_len left ≤ length left

has-option : (left : List ℕ) → ends left ≡ false → HasOption left
has-option left goes =
    let parts = or_parts ((length left == 0) || (slice_index left 0 == 0)) (is_broken left) goes in
    let least = if slice_index left 0 == 1 then 1 else 2 in
    let sound = or_parts (nat_lt (option_len left) least) (nat_lt (length left) (option_len left)) parts.1 in
    record {
      least = omega (arith, one-or-two (slice_index left 0 == 1), ltb-false (option_len left) least sound.0);
      within = ltb-false (length left) (option_len left) sound.1;
    }

-- counting more options than there are bytes changes nothing
kept-same : (n m : ℕ) (left : List ℕ) → length left ≤ n → length left ≤ m → kept_within n left ≡ kept_within m left
kept-same zero zero left a b = refl
kept-same zero (suc m) [] a b = refl
kept-same zero (suc m) (x ∷ xs) a b = absurd (omega arith)
kept-same (suc n) zero [] a b = refl
kept-same (suc n) zero (x ∷ xs) a b = absurd (omega arith)
kept-same (suc n) (suc m) left a b =
    both (ends left) _ _ _ _ (λ ended. refl)
    (λ goes. let has = has-option left goes in
    let shorter : length (drop (option_len left) left) + 1 ≤ length left = omega (arith, length-drop (option_len left) left, has.least, has.within) in
    ap (λ (l : List ℕ). if_copied (take (option_len left) left) ++ l)
    (kept-same n m (drop (option_len left) left) (omega (arith, shorter)) (omega (arith, shorter))))

pub kept-step : (left : List ℕ) → ends left ≡ false → kept left ≡ if_copied (take (option_len left) left) ++ kept (drop (option_len left) left)
kept-step [] goes = absurd cc
kept-step (x ∷ xs) goes =
    let left = x ∷ xs in
    let has = has-option left goes in
    let rest = drop (option_len left) left in
    let shorter : length rest ≤ length xs = omega (arith, length-drop (option_len left) left, has.least, has.within) in
    rw goes (ap (λ (l : List ℕ). if_copied (take (option_len left) left) ++ l) (kept-same (length xs) (length rest) rest shorter (omega arith)))

pub kept-end : (left : List ℕ) → ends left ≡ true → kept left ≡ []
kept-end [] ended = refl
kept-end (x ∷ xs) ended = rw ended refl

few-by : (test : Bool) (option : List ℕ) → length (if test then [] else option) ≤ length option
few-by true option = omega arith
few-by false option = omega arith

few-copied : (option : List ℕ) → length (if_copied option) ≤ length option
few-copied option = few-by (nat_lt (slice_index option 0) 128) option

none-or : (test : Bool) (l : List ℕ) (most : ℕ) → (test ≡ false → length l ≤ most) → length (if test then [] else l) ≤ most
none-or true l most few = omega arith
none-or false l most few = few refl

kept-few : (n : ℕ) (left : List ℕ) → length (kept_within n left) ≤ length left
kept-few zero left = omega arith
kept-few (suc n) left = none-or (ends left) _ (length left)
    (λ goes. let has = has-option left goes in
    omega (
      arith,
      length-append (if_copied (take (option_len left) left)) (kept_within n (drop (option_len left) left)),
      few-copied (take (option_len left) left),
      length-take-le (option_len left) left has.within,
      kept-few n (drop (option_len left) left),
      length-drop (option_len left) left,
      has.within,
    ))

-- what is kept of all, and what is still to be kept
pub kept-on : (list now option options : List ℕ) (at len : ℕ) → list ++ kept (drop at options) ≡ kept options →
    ends (drop at options) ≡ false → len ≡ option_len (drop at options) → option ≡ take len (drop at options) → now ≡ list ++ if_copied option →
    now ++ kept (drop (at + len) options) ≡ kept options
kept-on list now option options at len before goes len_is option_is now_is =
    let left = drop at options in
    let rest_is : drop (option_len left) left ≡ drop (at + len) options = drop-drop (option_len left) at options ∙ ap (λ n. drop (at + n) options) (sym len_is) in
    let taken : option ≡ take (option_len left) left = option_is ∙ ap (λ n. take n left) len_is in
    (λ i. now_is i ++ kept (sym rest_is i))
    ∙ (λ i. (list ++ if_copied (taken i)) ++ kept (drop (option_len left) left))
    ∙ append_assoc list (if_copied (take (option_len left) left)) (kept (drop (option_len left) left))
    ∙ ap (λ l. list ++ l) (sym (kept-step left goes))
    ∙ before

-- the options of later pieces fill whole words, and no more of them than all options do
pub record IsPadded (len : ℕ) (options : List ℕ) : Type 0 where
  pub whole_words : length (copied_of options) % 4 ≡ 0
  pub no_more : length (copied_of options) ≤ len

pub padded : (options : List ℕ) → length options % 4 ≡ 0 → IsPadded (length options) options
padded options words =
    let k = length (kept options) in
    let few : k ≤ length options = kept-few (length options) options in
    let zeros : length (padding k) ≡ (4 - k % 4) % 4 = length-take-le ((4 - k % 4) % 4) (0 ∷ 0 ∷ 0 ∷ []) (omega arith) in
    let len : length (copied_of options) ≡ k + (4 - k % 4) % 4 = length-append (kept options) (padding k) ∙ ap (λ n. k + n) zeros in
    record { whole_words = omega (arith, len); no_more = omega (arith, len, few, words) }

pub kept-no-more : (list now option : List ℕ) (at len : ℕ) → length list ≤ at → length option ≡ len → now ≡ list ++ if_copied option → length now ≤ at + len
kept-no-more list now option at len few len_is now_is =
    omega (arith, ap length now_is, length-append list (if_copied option), few-copied option)
