-- How the fronts of lists join.
use Rattle.std.proofs.Common.{◌≡◌, ℕ, ◌+◌, ◌-◌, ◌≤◌, List, ◌++◌, length, take, drop, sym, ◌∙◌, ap, arith}
use Rattle.std.proofs.Math.Seq.{take-add}
use Rattle.std.proofs.lemmas.List.{take_rest, take-append-le, drop_at, length-take-le}
use Rattle.std.proofs.lemmas.Slice.{take-put_mid_below}
use borrow.Rule.Slice.PartMut.{put_mid}

-- the first `done`, then `count` of the others
pub front_more : (bytes : List ℕ) (done count : ℕ) → take done bytes ++ take count (take (length bytes - done) (drop done bytes)) ≡ take (done + count) bytes
front_more bytes done count = ap (λ rest. take done bytes ++ take count rest) (take_rest bytes done) ∙ sym (take-add done count bytes)

-- a buffer whose part from `got` on was overwritten by a longer list: the front has the first of that list
pub front_over : (got k count : ℕ) (into part : List ℕ) → got ≤ length into → count ≤ length part → take (got + count) (put_mid got k into part) ≡ take got into ++ take count part
front_over got k count into part in_into in_part =
    let behind : drop got (put_mid got k into part) ≡ part ++ drop k (drop got into) = drop_at _ _ got (length-take-le got into in_into) in
    take-add got count (put_mid got k into part)
    ∙ ap (λ l. l ++ take count (drop got (put_mid got k into part))) (take-put_mid_below got k into part got (omega arith) in_into)
    ∙ ap (λ l. take got into ++ l) (ap (take count) behind ∙ take-append-le count part (drop k (drop got into)) in_part)
