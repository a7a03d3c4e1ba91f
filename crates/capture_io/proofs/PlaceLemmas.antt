-- Records at the places of a buffer, cut into two parts.
use Rattle.std.proofs.Common.{◌≡◌, ℕ, ◌-◌, All, List, [], ◌++◌, length, map, take, drop, sym, ◌∙◌, ap, arith}
use Rattle.std.proofs.lemmas.List.{drop-map, length-drop, take-map, take_all}
use Rattle.std.proofs.lemmas.List.Elements.{All-drop, All-take}
use Rattle.capture_io.specs.Records.{IsWithin, placed}
use Rattle.capture_io.specs.declared.forms.Rec.{Rec}
use Rattle.capture_io.specs.declared.records.Place.{Place}

-- a list that was emptied and got all places from an index on
pub behind : (old new slice places : List Place) (count : ℕ) → old ≡ [] → new ≡ old ++ take (length slice - count) (drop count slice) → slice ≡ places →
    new ≡ drop count places
behind old new slice places count none e same =
    e ∙ ap (λ (l : List Place). l ++ take (length slice - count) (drop count slice)) none
    ∙ take_all (length slice - count) (drop count slice) (omega (arith, length-drop count slice)) ∙ ap (λ (l : List Place). drop count l) same

-- the bytes of the other places still lie in the buffer
pub within_rest : (buffer other : List ℕ) (places rest : List Place) (count : ℕ) → other ≡ buffer → rest ≡ drop count places →
    All (IsWithin buffer) places → All (IsWithin other) rest
within_rest buffer other places rest count same e all = rw (same, e) (All-drop (IsWithin buffer) count places all)

pub placed_rest : (buffer other : List ℕ) (places rest : List Place) (whole : List Rec) (count : ℕ) → map (placed buffer) places ≡ whole → other ≡ buffer →
    rest ≡ drop count places → map (placed other) rest ≡ drop count whole
placed_rest buffer other places rest whole count is same e = rw (same, e, ← is) (sym (drop-map (placed buffer) count places))

pub placed_first : (buffer : List ℕ) (places first : List Place) (whole : List Rec) (count : ℕ) → map (placed buffer) places ≡ whole → first ≡ take count places →
    map (placed buffer) first ≡ take count whole
placed_first buffer places first whole count is e = rw (e, ← is) (sym (take-map (placed buffer) count places))
