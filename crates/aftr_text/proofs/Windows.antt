-- A short line, as it stands among the bytes that it is copied from.
use Rattle.std.proofs.Common.{◌≡◌, ℕ, ◌+◌, ◌-◌, ◌≤◌, List, ◌++◌, length, take, drop, ◌∙◌, ap, arith}
use Rattle.std.proofs.Math.Seq.{take-append-add}
use Rattle.std.proofs.lemmas.List.{take-take}

-- what was copied, and cut off
pub cut_off : (old window rest items after : List ℕ) (most start : ℕ) → window ≡ take most rest → items ≡ old ++ window
    → after ≡ take (length old + (most - start)) items → after ≡ old ++ take (most - start) rest
cut_off old window rest items after most start is copied cut =
    let less : most - start ≤ most = omega arith in
    cut ∙ ap (λ (l : List ℕ). take (length old + (most - start)) l) copied ∙ take-append-add old window (most - start)
    ∙ ap (λ (l : List ℕ). old ++ take (most - start) l) is ∙ ap (λ (l : List ℕ). old ++ l) (take-take (most - start) most rest less)

-- of a part that ends at an index, and what follows it
pub window_of : (most start end : ℕ) (part line rest : List ℕ) → start + length part ≡ end → end ≤ most → drop start line ≡ part ++ rest
    → take (most - start) (drop start line) ≡ part ++ take (most - end) rest
window_of most start end part line rest ends inside is =
    let count : most - start ≡ length part + (most - end) = omega arith in
    (λ i. take (count i) (is i)) ∙ take-append-add part rest (most - end)
