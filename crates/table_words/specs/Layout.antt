-- The words of a compiled table.
use Rattle.std.specs.Prelude.{◌≡◌, ℕ, ◌+◌, ◌*◌, ◌/◌, ◌%◌, ◌^◌, ◌<◌, ◌≤◌, Bool, nat_lt, if◌then◌else◌, List, map, length, slice_index, slice_index_or}
use Rattle.std.specs.List.{count_by}
use Rattle.std.specs.List.Sorted.{IsPermutation}
use Rattle.binding_rules.specs.Tables.{BindingTable, IsValid, IsLawful}
use Rattle.binding_rules.specs.declared.binding.Binding.{Binding}
use Rattle.binding_rules.specs.declared.settings.Softwire.{Softwire}
use Rattle.table_words.specs.Bounds.{shape_count, most_shapes}

-- a binding as the first word of its entry, unmarked, and the address of its tunnel's end: from the top, the first word
-- has 32 bits of the address, 8 of the offset, 8 of the length and 16 of the identifier
abbrev pub row : Binding → ℕ × ℕ
row b = (b.v4.0 * 2 ^ 32 + b.offset * 2 ^ 24 + b.length * 2 ^ 16 + b.psid, b.b4.0)

-- where the first entry stands: behind the eight words of settings and the 65,537 of the index
abbrev pub first_entry : ℕ
first_entry = 65545

-- a row of a list of rows
abbrev pub row_at : List (ℕ × ℕ) → ℕ → ℕ × ℕ
row_at rows e = slice_index_or rows e (0, 0)

-- how many rows have an address whose top 16 bits are below h
abbrev pub rows_below : List (ℕ × ℕ) → ℕ → ℕ
rows_below rows h = count_by (λ r. nat_lt (r.0 / 2 ^ 48) h) rows

abbrev pub flag : Bool → ℕ → ℕ
flag on worth = if on then worth else 0

abbrev pub flags : Softwire → ℕ
flags s = flag s.hairpin 1 + flag s.icmp_in 2 + flag s.errors_up 4 + flag s.errors_down 8

-- the bindings of the address have more shapes than one
abbrev pub is_mixed : List Binding → ℕ → Bool
is_mixed bindings a = nat_lt 1 (shape_count bindings a)

-- some address has bindings of two shapes
abbrev pub has_two_shapes : List Binding → Bool
has_two_shapes bindings = nat_lt 1 (most_shapes bindings)

-- the first word of an entry: the top bit of the offset, which is at most 15, marks the addresses that are mixed
abbrev pub marked : (ℕ → Bool) → ℕ → ℕ
marked mixed first = first + flag (mixed (first / 2 ^ 32)) (2 ^ 31)

-- the settings fit into their fields
pub record IsRanged (s : Softwire) : Type 0 where
  pub mtu6 : s.mtu6 < 65536
  pub mtu4 : s.mtu4 < 65536
  pub hop_limit : s.hop_limit < 256

-- the words are those of the table: eight words of settings, the index, and for each binding an entry of three words
pub record IsCompiled (t : BindingTable) (words : List ℕ) : Type 0 where
  pub valid : IsValid t
  pub lawful : IsLawful t
  pub ranged : IsRanged t.softwire
  -- the rows of all bindings, ascending by their first word; a mark keeps this order, since all entries of an address have it
  pub rows : List (ℕ × ℕ)
  pub same : IsPermutation (map row t.bindings) rows
  pub ascending : (d e : ℕ) → d < e → e < length rows → (row_at rows d).0 < (row_at rows e).0
  pub size : length words ≡ first_entry + 3 * length rows
  pub count : slice_index words 0 ≡ length rows
  pub aftr_high : slice_index words 1 ≡ t.softwire.aftr.0 / 2 ^ 64
  pub aftr_low : slice_index words 2 ≡ t.softwire.aftr.0 % 2 ^ 64
  pub own : slice_index words 3 ≡ t.softwire.own.0 * 2 ^ 32 + flags t.softwire
  pub sizes : slice_index words 4 ≡ t.softwire.mtu6 * 2 ^ 32 + t.softwire.mtu4 * 2 ^ 16 + t.softwire.hop_limit
  pub spare : (j : ℕ) → 5 ≤ j → j < 8 → slice_index words j ≡ 0
  pub index : (h : ℕ) → h ≤ 65536 → slice_index words (8 + h) ≡ rows_below rows h
  pub first : (e : ℕ) → e < length rows → slice_index words (first_entry + 3 * e) ≡ marked (is_mixed t.bindings) (row_at rows e).0
  pub b4_high : (e : ℕ) → e < length rows → slice_index words (first_entry + 1 + 3 * e) ≡ (row_at rows e).1 / 2 ^ 64
  pub b4_low : (e : ℕ) → e < length rows → slice_index words (first_entry + 2 + 3 * e) ≡ (row_at rows e).1 % 2 ^ 64

-- the words are those of a table
pub record AreCompiled (words : List ℕ) : Type 0 where
  pub table : BindingTable
  pub of_table : IsCompiled table words
