-- The header of a record, before its packet.
use Rattle.std.proofs.Common.{◌≡◌, ℕ, List, ◌++◌, length, refl, sym, ◌∙◌, ap, append_assoc}
use Rattle.std.specs.Int.{w32, to_le_bytes}
use Rattle.capture_io.specs.Written.{record_bytes}

five : (o a b c d p : List ℕ) → (((o ++ a) ++ b) ++ c) ++ d ++ p ≡ o ++ (a ++ b ++ c ++ d ++ p)
five o a b c d p = simp append_assoc refl

abbrev le : ℕ → List ℕ
le number = to_le_bytes w32 number

pub head_before : (old one two three new packet : List ℕ) (s f len : ℕ) → one ≡ old ++ le s → two ≡ one ++ le f → three ≡ two ++ le len
    → new ≡ three ++ le len → length packet ≡ len → new ++ packet ≡ old ++ record_bytes s f packet
head_before old one two three new packet s f len a b c d e =
    let chain : new ≡ (((old ++ le s) ++ le f) ++ le len) ++ le len =
    d ∙ ap (λ (l : List ℕ). l ++ le len) (c ∙ ap (λ (l : List ℕ). l ++ le len) (b ∙ ap (λ (l : List ℕ). l ++ le f) a)) in
    ap (λ (l : List ℕ). l ++ packet) chain
    ∙ five old (le s) (le f) (le len) (le len) packet
    ∙ ap (λ (n : ℕ). old ++ (le s ++ le f ++ le n ++ le n ++ packet)) (sym e)
