-- Numbers of one digit.
use Rattle.std.proofs.Common.{◌≡◌, ℕ, List, ◌++◌, codes, sym, ◌∙◌, ap, arith}
use Rattle.std.specs.Prelude.{decimal}
use Rattle.std.proofs.lemmas.Fmt.{decimal_digit}

-- one packet, at the end of a line
pub of_one : (n : ℕ) → n ≡ 1 → codes "1\n" ≡ decimal n ++ codes "\n"
of_one n is = ap (λ (l : List ℕ). l ++ codes "\n") (sym (decimal_digit 1 (omega arith)) ∙ ap decimal (sym is))
