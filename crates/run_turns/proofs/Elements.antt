-- Elements of lists, and what holds of all of them.
use Rattle.run_turns.proofs.Words.{◌≡◌, ℕ, ◌+◌, ◌<◌, List, ◌++◌, All, length, get_or, map, Option, Some, sym, subst, ◌∙◌, ap, arith, length-append}
use Rattle.run_turns.proofs.Words.{consecutive, All-append, [], ◌∷◌, zero, suc, length-map, Contains, range_with_len, slice_get, option_map, get_or_append_left, get_or-append-add}
use Rattle.run_turns.proofs.Words.{get_or-range_with_len, length-range_with_len, get_or_from_slice_get, slice_get-map, slice_get_within}

-- what holds of all holds of one
pub all_at : {A : Type 0} (P : A → Type 0) (xs : List A) (k : ℕ) (x : A) → All P xs → slice_get xs k ≡ Some x → P x
all_at P xs k x all is = subst P (get_or_from_slice_get xs k x x is) (all k x (slice_get_within xs k x is))

pub all_among : {A : Type 0} (P : A → Type 0) (xs : List A) (x : A) → All P xs → Contains xs x → P x
all_among P xs x all (k, inside, is) = subst P is (all k x inside)

-- the last part of a longer list
pub all_behind : {A : Type 0} (P : A → Type 0) (front back : List A) → All P (front ++ back) → All P back
all_behind P front back all k d inside =
    let whole : length front + k < length (front ++ back) = omega (arith, inside, length-append front back) in
    subst P (get_or-append-add front back k d) (all (length front + k) d whole)

pub all_before : {A : Type 0} (P : A → Type 0) (front back : List A) → All P (front ++ back) → All P front
all_before P front back all k d inside =
    let whole : k < length (front ++ back) = omega (arith, inside, length-append front back) in
    subst P (get_or_append_left front back d k inside) (all k d whole)

-- one more
pub all_more : {A : Type 0} (P : A → Type 0) (xs : List A) (x : A) → All P xs → P x → All P (xs ++ x ∷ [])
all_more {A} P xs x all is = All-append P xs (x ∷ []) all all_one where
  all_one : All P (x ∷ [])
  all_one zero d inside = is
  all_one (suc k) d inside = absurd (omega (arith, inside))

pub count_more : {A : Type 0} (xs : List A) (x : A) {n : ℕ} → length xs ≡ n → length (xs ++ x ∷ []) ≡ n + 1
count_more xs x is = omega (arith, is, length-append xs (x ∷ []))

-- numbers that count up from a start
pub number_at : {A : Type 0} (f : A → ℕ) (xs : List A) (start count k : ℕ) (x : A) → map f xs ≡ range_with_len start count → slice_get xs k ≡ Some x →
    f x ≡ start + k
number_at {A} f xs start count k x numbers is =
    let here = get_or_from_slice_get (map f xs) k (f x) 0 (slice_get-map f xs k ∙ ap (λ (o : Option A). option_map f o) is) in
    let long = sym (length-map xs f) ∙ (ap (λ (l : List ℕ). length l) numbers ∙ length-range_with_len start count) in
    let inside : k < count = omega (arith, long, slice_get_within xs k x is) in
    sym here ∙ (ap (λ (l : List ℕ). get_or l k 0) numbers ∙ get_or-range_with_len start count k 0 inside)

-- draws in a row are as many as they are
pub consecutive_count : (first count version : ℕ) → length (consecutive first count version) ≡ count
consecutive_count first count version =
    length-map (range_with_len first count) (λ (number : ℕ). (number, version)) ∙ length-range_with_len first count
