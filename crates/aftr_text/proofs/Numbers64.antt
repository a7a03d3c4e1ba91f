-- Numbers below 2^64, as words write them in decimal.
use Rattle.std.proofs.Common.{◌≡◌, ◌≢◌, ℕ, ◌^◌, ◌<◌, ◌≤◌, Bool, false, List, Result, Ok, sym, ◌∙◌, ap, arith}
use Rattle.std.specs.Prelude.{bytes_eq, decimal}
use Rattle.std.specs.Str.Parse.{ParsesUnsigned}
use Rattle.std.proofs.lemmas.Fmt.{decimal_injective, parse-decimal}
use Rattle.std.proofs.lemmas.Slice.Eq.{bytes_eq-Decides}

-- a number's text is parsed as it
parsed : {E : Type 0} (text : List ℕ) (r : Result ℕ E) (n : ℕ) → ParsesUnsigned 64 10 text r → n < 2 ^ 64 → text ≡ decimal n → r ≡ Ok n
parsed text r n parses fits is = parse-decimal 64 n text r fits (omega (arith, fits)) is parses

pub not_parsed : {E : Type 0} (text : List ℕ) (r : Result ℕ E) → ParsesUnsigned 64 10 text r → ((x : ℕ) → r ≡ Ok x → ⊥)
    → (n : ℕ) → n < 2 ^ 64 → text ≢ decimal n
not_parsed text r parses none n fits is = none n (parsed text r n parses fits is)

same_ok : {E : Type 0} (r : Result ℕ E) (x y : ℕ) → r ≡ Ok x → r ≡ Ok y → x ≡ y
same_ok r x y e f = cc

-- a text that is not how the number is written writes no number
pub not_written : {E : Type 0} (text shown : List ℕ) (r : Result ℕ E) (number : ℕ) (equal : Bool) → ParsesUnsigned 64 10 text r → r ≡ Ok number
    → shown ≡ decimal number → equal ≡ bytes_eq shown text → equal ≡ false → (n : ℕ) → n < 2 ^ 64 → text ≢ decimal n
not_written text shown r number equal parses ok written test unequal n fits is =
    let same : number ≡ n = same_ok r number n ok (parsed text r n parses fits is) in
    let e : shown ≡ text = written ∙ (ap decimal same ∙ sym is) in
    absurd (cc ((bytes_eq-Decides shown text).1 e, test, unequal))

-- a number is another than one that is too small or too large
pub outside : (text : List ℕ) (n least most : ℕ) → text ≡ decimal n → n < 2 ^ 64 → most < 2 ^ 64 → (least ≤ n → n ≤ most → ⊥)
    → (m : ℕ) → least ≤ m → m ≤ most → text ≢ decimal m
outside text n least most is fits few out m low high other =
    let same : n ≡ m = decimal_injective n m fits (omega (arith, few, high)) (sym is ∙ other) in
    out (omega (arith, same, low)) (omega (arith, same, high))
