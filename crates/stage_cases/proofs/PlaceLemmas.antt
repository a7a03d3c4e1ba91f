-- Places of a buffer that grows.
use Rattle.std.proofs.Common.{◌≡◌, ℕ, zero, suc, ◌+◌, ◌<◌, ◌≤◌, List, [], ◌∷◌, ◌++◌, length, All, slice_index_or, length-append, arith}
use Rattle.std.proofs.lemmas.List.Elements.{All-append}
use Rattle.capture_io.specs.Records.{IsWithin}
use Rattle.capture_io.specs.declared.records.Place.{Place}

one-within : (buffer : List ℕ) (p : Place) → p.from + p.count ≤ length buffer →
    (k : ℕ) (d : Place) → k < 1 → IsWithin buffer (slice_index_or (p ∷ []) k d)
one-within buffer p fits zero d within = fits
one-within buffer p fits (suc k) d within = absurd (omega arith)

wider : (buffer more : List ℕ) (ps : List Place) → All (IsWithin buffer) ps → All (IsWithin (buffer ++ more)) ps
wider buffer more ps each = λ k d within. omega (arith, each k d within, length-append buffer more)

-- one place more, of what was put behind the buffer
pub grown : (buffer more : List ℕ) (ps : List Place) (p : Place) → All (IsWithin buffer) ps → p.from ≡ length buffer → p.count ≡ length more →
    All (IsWithin (buffer ++ more)) (ps ++ p ∷ [])
grown buffer more ps p each from_is count_is =
    All-append (IsWithin (buffer ++ more)) ps (p ∷ []) (wider buffer more ps each)
    (one-within (buffer ++ more) p (omega (arith, length-append buffer more)))
