-- A part of two lists that stand one behind the other.
use Rattle.std.proofs.Common.{◌≡◌, ℕ, zero, suc, ◌-◌, List, [], ◌∷◌, ◌++◌, length, take, drop, ◌∙◌, ap, arith}
use Rattle.ip_codec.proofs.Laws.{front-joined}

drop-joined : (from : ℕ) (a b : List ℕ) → drop from a ++ drop (from - length a) b ≡ drop from (a ++ b)
drop-joined zero a b = let same : 0 - length a ≡ 0 = omega arith in ap (λ k. a ++ drop k b) same
drop-joined (suc from) [] b = let same : suc from - 0 ≡ suc from = omega arith in ap (λ k. drop k b) same
drop-joined (suc from) (x ∷ a) b =
    let same : suc from - suc (length a) ≡ from - length a = omega arith in
    ap (λ k. drop from a ++ drop k b) same ∙ drop-joined from a b

-- the part of the first, and of the second what is left of it
pub part-joined : (a b : List ℕ) (from len : ℕ) (first second : List ℕ) → first ≡ take len (drop from a) →
    second ≡ take (len - length first) (drop (from - length a) b) → first ++ second ≡ take len (drop from (a ++ b))
part-joined a b from len first second first_is second_is =
    ap (λ l. first ++ l) second_is ∙ ap (λ l. l ++ take (len - length l) (drop (from - length a) b)) first_is
    ∙ front-joined len (drop from a) (drop (from - length a) b)
    ∙ ap (λ l. take len l) (drop-joined from a b)
