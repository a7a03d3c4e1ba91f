-- The digits of the next number: where the last one is below nine it alone is another one.
use Rattle.std.proofs.Common.{◌≡◌, ℕ, ◌+◌, ◌-◌, ◌/◌, ◌%◌, ◌^◌, ◌<◌, ◌≤◌, Bool, true, false, List, [], ◌∷◌, ◌++◌, ◌≢◌, nat_lt, length, take, drop, sym, ◌∙◌, ap, refl, arith}
use Rattle.std.specs.Prelude.{decimal, slice_index_or, slice_set}
use borrow.Rule.Slice.PartMut.{put_mid}
use Rattle.std.proofs.lemmas.Bool.{ltb-false, ltb-true}
use Rattle.std.proofs.lemmas.Fmt.{decimal_digit, decimal_step}
use Rattle.std.proofs.lemmas.List.{drop-append-le, drop-drop, drop-set-add, get_or-drop, length-append, length-drop, length-take-le}
use Rattle.std.proofs.Math.Seq.{drop-append-add}

-- a number's digits are some, and then the last one, which is another one in the next number
pub record Ends (n : ℕ) : Type 0 where
  pub front : List ℕ
  pub is : decimal n ≡ front ++ (48 + n % 10) ∷ []
  pub next : n % 10 < 9 → decimal (n + 1) ≡ front ++ (49 + n % 10) ∷ []

pub ends : (n : ℕ) → n + 1 < 2 ^ 64 → Ends n
ends n small = by (nat_lt n 10) refl where
  by : (b : Bool) → nat_lt n 10 ≡ b → Ends n
  by true below_ten = let less = ltb-true n 10 below_ten in record {
    front = [];
    is = decimal_digit n (omega (arith, less)) ∙ ap (λ (d : ℕ). (48 + d) ∷ []) (omega (arith, less));
    next = λ below. decimal_digit (n + 1) (omega (arith, less, below)) ∙ ap (λ (d : ℕ). d ∷ []) (omega (arith, less));
  }
  by false not_less = let more = ltb-false n 10 not_less in record {
    front = decimal (n / 10);
    is = decimal_step n (omega (arith, more)) (omega (arith, small));
    next = λ below.
        let same : (n + 1) / 10 ≡ n / 10 = omega (arith, below) in
        let last : 48 + (n + 1) % 10 ≡ 49 + n % 10 = omega (arith, below) in
        decimal_step (n + 1) (omega (arith, more)) small ∙ (λ i. decimal (same i) ++ last i ∷ []);
  }

-- the last element of a list
last_of : (front : List ℕ) (d : ℕ) → slice_index_or (front ++ d ∷ []) (length front) 0 ≡ d
last_of [] d = refl
last_of (x ∷ xs) d = last_of xs d

set_last : (front : List ℕ) (d y : ℕ) → slice_set (front ++ d ∷ []) (length front) y ≡ front ++ y ∷ []
set_last [] d y = refl
set_last (x ∷ xs) d y = ap (λ (l : List ℕ). x ∷ l) (set_last xs d y)

-- the digits of the next number, where those of a number end an array of ten
pub raised : (n start : ℕ) (digits : List ℕ) → n + 1 < 2 ^ 64 → length digits ≡ 10 → start ≤ 9 → drop start digits ≡ decimal n → slice_index_or digits 9 0 ≢ 57 →
    (slice_index_or digits 9 0 < 57) × (drop start (slice_set digits 9 (slice_index_or digits 9 0 + 1)) ≡ decimal (n + 1))
raised n start digits small size few is other =
    let e = ends n small in
    let place : start + (9 - start) ≡ 9 = omega (arith, few) in
    let here : drop start digits ≡ e.front ++ (48 + n % 10) ∷ [] = is ∙ e.is in
    let many : length e.front ≡ 9 - start = omega (arith, few, size, length-drop start digits, ap length here, length-append e.front ((48 + n % 10) ∷ [])) in
    let last : slice_index_or digits 9 0 ≡ 48 + n % 10 =
    ap (λ (k : ℕ). slice_index_or digits k 0) (sym place) ∙ (sym (get_or-drop start digits (9 - start) 0)
    ∙ (ap (λ (l : List ℕ). slice_index_or l (9 - start) 0) here ∙ (ap (λ (k : ℕ). slice_index_or (e.front ++ (48 + n % 10) ∷ []) k 0) (sym many) ∙ last_of e.front (48 + n % 10)))) in
    let below : n % 10 < 9 = omega (arith, last, other) in
    let y : ℕ = slice_index_or digits 9 0 + 1 in
    let y_is : y ≡ 49 + n % 10 = omega (arith, last) in
    let put : drop start (slice_set digits 9 y) ≡ e.front ++ y ∷ [] =
    ap (λ (k : ℕ). drop start (slice_set digits k y)) (sym place) ∙ (drop-set-add start digits (9 - start) y
    ∙ (ap (λ (l : List ℕ). slice_set l (9 - start) y) here ∙ (ap (λ (k : ℕ). slice_set (e.front ++ (48 + n % 10) ∷ []) k y) (sym many) ∙ set_last e.front (48 + n % 10) y))) in
    (omega (arith, last, below), put ∙ (ap (λ (d : ℕ). e.front ++ d ∷ []) y_is ∙ sym (e.next below)))

-- ten digits that were put in front of an index, from the place where those of the number begin
pub digits_put : (end start : ℕ) (line digits put text : List ℕ) → 10 ≤ end → end ≤ length line → start ≤ 9 → length digits ≡ 10 → put ≡ digits →
    drop start digits ≡ text → drop (end - 10 + start) (put_mid (end - 10) (end - (end - 10)) line put) ≡ text ++ drop end line
digits_put end start line digits put text room inside few size is begun =
    let front : List ℕ = take (end - 10) line in
    let rest : List ℕ = drop (end - (end - 10)) (drop (end - 10) line) in
    let length_is : length front ≡ end - 10 = length-take-le (end - 10) line (omega (arith, inside)) in
    let whole : end - 10 + (end - (end - 10)) ≡ end = omega (arith, room) in
    ap (λ (k : ℕ). drop (k + start) (front ++ (put ++ rest))) (sym length_is)
    ∙ (drop-append-add front (put ++ rest) start
    ∙ (drop-append-le start put rest (omega (arith, few, size, ap length is))
    ∙ (λ i. (ap (drop start) is ∙ begun) i ++ (drop-drop (end - (end - 10)) (end - 10) line ∙ ap (λ (k : ℕ). drop k line) whole) i)))
