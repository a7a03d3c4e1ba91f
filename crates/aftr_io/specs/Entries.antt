-- A list of names with bytes.
use Rattle.std.specs.Prelude.{◌≡◌, ◌≢◌, ℕ, ◌<◌, List, [], length, slice_index_or}

abbrev pub name_at : List (List ℕ × List ℕ) → ℕ → List ℕ
name_at entries index = (slice_index_or entries index ([], [])).0

abbrev pub bytes_at : List (List ℕ × List ℕ) → ℕ → List ℕ
bytes_at entries index = (slice_index_or entries index ([], [])).1

-- the first entry of this name stands at the index
pub record IsFirstOf (entries : List (List ℕ × List ℕ)) (name : List ℕ) (index : ℕ) : Type 0 where
  pub within : index < length entries
  pub named : name_at entries index ≡ name
  pub first : (k : ℕ) → k < index → name_at entries k ≢ name

-- no entry has the name
pub record HasNoneOf (entries : List (List ℕ × List ℕ)) (name : List ℕ) : Type 0 where
  pub none : (k : ℕ) → k < length entries → name_at entries k ≢ name
