-- What is read of bytes depends on the first of them alone.
use Rattle.std.proofs.Common.{◌≡◌, ℕ, ◌+◌, ◌-◌, ◌≤◌, nat_lt, Bool, List, length, drop, take, refl, ◌∙◌, ap, arith}
use Rattle.std.proofs.lemmas.List.{length-take, drop-take, take-take}
use Rattle.std.proofs.lemmas.Bool.Decides.{nat_tests}
use Rattle.std.proofs.lemmas.Grind.{common_steps}
use Rattle.aftr_base.specs.Numbers.{span}
use Rattle.capture_io.specs.Header.{header_in}
use Rattle.capture_io.specs.Head.{head_in}

-- bytes within the first few
pub span_front : (bytes : List ℕ) (most at count : ℕ) → at + count ≤ most → span (take most bytes) at count ≡ span bytes at count
span_front bytes most at count within =
    let split : most ≡ at + (most - at) = omega arith in
    let front : drop at (take (at + (most - at)) bytes) ≡ take (most - at) (drop at bytes) = drop-take at (most - at) bytes in
    ap (λ n. take count (drop at (take n bytes))) split ∙ ap (λ l. take count l) front ∙ take-take count (most - at) (drop at bytes) (omega arith)

pub short_front : (bytes : List ℕ) (most : ℕ) → nat_lt (length (take most bytes)) most ≡ nat_lt (length bytes) most
short_front bytes most = grind (arith, nat_tests, common_steps, length-take most bytes)

pub header_front : (bytes : List ℕ) → header_in (take 24 bytes) ≡ header_in bytes
header_front bytes =
    rw (short_front bytes 24, span_front bytes 24 0 4 (omega arith), span_front bytes 24 4 2 (omega arith), span_front bytes 24 6 2 (omega arith), span_front bytes 24 20 4 (omega arith)) refl

pub head_front : (big : Bool) (left : List ℕ) (at number : ℕ) → head_in big (take 16 left) at number ≡ head_in big left at number
head_front big left at number =
    rw (short_front left 16, span_front left 16 0 4 (omega arith), span_front left 16 4 4 (omega arith), span_front left 16 8 4 (omega arith)) refl
