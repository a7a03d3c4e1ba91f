-- The parts of the words, as they are written one after the other. No public contract cites these.
use Rattle.std.specs.Prelude.{◌≡◌, ◌≢◌, ℕ, ◌/◌, ◌+◌, ◌*◌, ◌^◌, ◌%◌, ◌≤◌, ◌<◌, Bool, true, false, List, [], ◌∷◌, length, map}
use Rattle.std.specs.List.{range_with_len}
use Rattle.binding_rules.specs.declared.settings.Softwire.{Softwire}
use Rattle.table_words.specs.Layout.{row_at, rows_below, flags, marked}

abbrev pub IsAscending : List (ℕ × ℕ) → Type 0
IsAscending rows = (d e : ℕ) → d ≤ e → e < length rows → (row_at rows d).0 ≤ (row_at rows e).0

-- two rows of the address have two shapes
pub record HaveTwoShapes (rows : List (ℕ × ℕ)) (a : ℕ) : Type 0 where
  pub d : ℕ
  pub e : ℕ
  pub d_within : d < length rows
  pub e_within : e < length rows
  pub d_address : (row_at rows d).0 / 2 ^ 32 ≡ a
  pub e_address : (row_at rows e).0 / 2 ^ 32 ≡ a
  pub shapes : (row_at rows d).0 / 65536 ≢ (row_at rows e).0 / 65536

-- all rows of the address have one shape
abbrev pub HaveOneShape : List (ℕ × ℕ) → ℕ → Type 0
HaveOneShape rows a = (d e : ℕ) → d < length rows → e < length rows → (row_at rows d).0 / 2 ^ 32 ≡ a → (row_at rows e).0 / 2 ^ 32 ≡ a
    → (row_at rows d).0 / 65536 ≡ (row_at rows e).0 / 65536

-- which addresses have rows of two shapes
pub record TellsMixed (rows : List (ℕ × ℕ)) (mixed : ℕ → Bool) : Type 0 where
  pub two : (a : ℕ) → HaveTwoShapes rows a → mixed a ≡ true
  pub one : (a : ℕ) → HaveOneShape rows a → mixed a ≡ false

-- no row has a mark yet
abbrev pub AreUnmarked : List (ℕ × ℕ) → Type 0
AreUnmarked rows = (e : ℕ) → e < length rows → (row_at rows e).0 / 2 ^ 31 % 2 ≡ 0

-- the end of the rows that have the address of this one
pub record IsEndOfAddress (rows : List (ℕ × ℕ)) (from to : ℕ) : Type 0 where
  pub some : from < to
  pub within : to ≤ length rows
  pub same : (e : ℕ) → from ≤ e → e < to → (row_at rows e).0 / 2 ^ 32 ≡ (row_at rows from).0 / 2 ^ 32
  pub above : (e : ℕ) → to ≤ e → e < length rows → (row_at rows from).0 / 2 ^ 32 < (row_at rows e).0 / 2 ^ 32

abbrev pub settings_words : Softwire → ℕ → List ℕ
settings_words s n = n ∷ s.aftr.0 / 2 ^ 64 ∷ s.aftr.0 % 2 ^ 64
    ∷ (s.own.0 * 2 ^ 32 + flags s) ∷ (s.mtu6 * 2 ^ 32 + s.mtu4 * 65536 + s.hop_limit) ∷ 0 ∷ 0 ∷ 0 ∷ []

-- the first n words of the index; not an `abbrev`, so that no proof writes them out
unfoldable pub index_words : List (ℕ × ℕ) → ℕ → List ℕ
index_words rows n = map (rows_below rows) (range_with_len 0 n)

abbrev pub entry_words : (ℕ → Bool) → List (ℕ × ℕ) → List ℕ
entry_words mixed [] = []
entry_words mixed (r ∷ rows) = marked mixed r.0 ∷ r.1 / 2 ^ 64 ∷ r.1 % 2 ^ 64 ∷ entry_words mixed rows
