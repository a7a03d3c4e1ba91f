-- What the steps of a lookup know of the words. No public contract cites these. Below, d and e are places of entries, and
-- a is an address as a number.
use Rattle.std.specs.Prelude.{◌≡◌, ◌≢◌, ℕ, ◌+◌, ◌-◌, ◌*◌, ◌/◌, ◌%◌, ◌^◌, ◌<◌, ◌≤◌, ◌↔◌, Bool, true}
use Rattle.std.specs.Prelude.{false, List, length, slice_index, Contains, Option, Some, None}
use Rattle.port_set.specs.Shapes.{IsShape}
use Rattle.binding_rules.specs.Bindings.{owns}
use Rattle.binding_rules.specs.Tables.{BindingTable}
use Rattle.binding_rules.specs.declared.binding.Binding.{Binding}
use Rattle.binding_rules.specs.declared.binding.Want.{Want}
use Rattle.table_words.specs.Bounds.{group_digits}
use Rattle.table_words.specs.Layout.{first_entry, flag, is_mixed}

-- the first word of an entry
abbrev pub first_at : List ℕ → ℕ → ℕ
first_at words e = slice_index words (first_entry + 3 * e)

-- whether a first word is marked: 1 or 0
abbrev pub mark_of : ℕ → ℕ
mark_of first = first / 2 ^ 31 % 2

-- the address of the tunnel's end of an entry
abbrev pub b4_at : List ℕ → ℕ → ℕ
b4_at words e = slice_index words (first_entry + 1 + 3 * e) * 2 ^ 64 + slice_index words (first_entry + 2 + 3 * e)

-- the entries from one place up to another
pub record IsEntryRange (words : List ℕ) (from to : ℕ) : Type 0 where
  pub ordered : from ≤ to
  pub few : to ≤ 65536
  pub within : first_entry + 3 * to ≤ length words
  pub ascending : (d e : ℕ) → d ≤ e → e < to → first_at words d ≤ first_at words e
  pub rising : (d e : ℕ) → d < e → e < to → first_at words d < first_at words e
  pub shapes : (e : ℕ) → e < to → IsShape (first_at words e / 2 ^ 24 % 128) (first_at words e / 65536 % 256)

-- the place where entries below the key end
pub record IsBoundary (words : List ℕ) (from to key at : ℕ) : Type 0 where
  pub from_on : from ≤ at
  pub up_to : at ≤ to
  pub below : (e : ℕ) → from ≤ e → e < at → first_at words e < key
  pub above : (e : ℕ) → at ≤ e → e < to → key ≤ first_at words e

-- a binding of the address and shape of the first word of an entry
pub record IsLike (first : ℕ) (x : Binding) : Type 0 where
  pub v4 : x.v4.0 ≡ first / 2 ^ 32
  pub offset : x.offset ≡ first / 2 ^ 24 % 128
  pub length : x.length ≡ first / 65536 % 256
  pub psid_fits : x.psid < 2 ^ x.length

-- the first word is that of an entry of the binding, whether it is marked or not
pub record IsFirstOf (first : ℕ) (x : Binding) : Type 0 where
  pub like : IsLike first x
  pub psid : x.psid ≡ first % 65536

-- the entry is that of the binding
pub record IsEntry (words : List ℕ) (x : Binding) (e : ℕ) : Type 0 where
  pub first : IsFirstOf (first_at words e) x
  pub b4 : b4_at words e ≡ x.b4.0

-- each of these entries is that of a binding
abbrev pub AreEntriesOf : List Binding → List ℕ → ℕ → ℕ → Type 0
AreEntriesOf bindings words from to = (e : ℕ) → from ≤ e → e < to → (x : Binding) × Contains bindings x × IsEntry words x e

-- the entries of the bindings that agree with the address in its top 16 bits
pub record IsIndexGroup (t : BindingTable) (words : List ℕ) (a from to : ℕ) : Type 0 where
  pub members : (x : Binding) → Contains t.bindings x → x.v4.0 ≡ a → (e : ℕ) × (from ≤ e) × (e < to) × IsEntry words x e
  pub entries : AreEntriesOf t.bindings words from to
  pub marks : (e : ℕ) → from ≤ e → e < to → mark_of (first_at words e) ≡ flag (is_mixed t.bindings (first_at words e / 2 ^ 32)) 1
  pub size : to - from < 2 ^ group_digits t.bindings

-- the first word of the one entry with the address and shape that owns what is wanted, if any can
abbrev pub IsKey : ℕ → Want → Option ℕ → Type 0
IsKey first w None = (x : Binding) → IsLike first x → owns w x ≡ false
IsKey first w (Some key) = (key / 65536 ≡ first / 65536)
    × ((x : Binding) → IsLike first x → (owns w x ≡ true) ↔ (x.psid ≡ key % 65536))

-- the end of the tunnel is that of an entry with this address and shape that owns what is wanted
pub record IsFound (words : List ℕ) (from to first : ℕ) (w : Want) (b4 : ℕ) : Type 0 where
  pub at : ℕ
  pub from_on : from ≤ at
  pub up_to : at < to
  pub b4_is : b4 ≡ b4_at words at
  pub alike : first_at words at / 65536 ≡ first / 65536
  pub owned : (x : Binding) → IsLike first x → x.psid ≡ first_at words at % 65536 → owns w x ≡ true

-- no entry with this address and shape owns what is wanted
abbrev pub IsNotFound : List ℕ → ℕ → ℕ → ℕ → Want → Type 0
IsNotFound words from to first w = (e : ℕ) (x : Binding) → from ≤ e → e < to → first_at words e / 65536 ≡ first / 65536
    → IsFirstOf (first_at words e) x → owns w x ≡ false

-- the entries up to this end are all that can have the key, and perhaps more
pub record IsUpperEnd (from to first key end : ℕ) : Type 0 where
  pub some : from < end
  pub within : end ≤ to
  pub enough : end < to → key < first + (end - from)

-- a place of these entries whose first word is from `least` to `most`, and the entries that are left around it
pub record IsSpot (words : List ℕ) (from to least most low high at first : ℕ) : Type 0 where
  pub from_on : from ≤ low
  pub low_on : low ≤ at
  pub before_high : at < high
  pub up_to : high ≤ to
  pub here : first ≡ first_at words at
  pub at_least : least ≤ first
  pub at_most : first ≤ most
  pub below : (e : ℕ) → from ≤ e → e < low → first_at words e < least
  pub above : (e : ℕ) → high ≤ e → e < to → most < first_at words e

-- the entry at a place of these has this first word
pub record IsHere (words : List ℕ) (from to at first : ℕ) : Type 0 where
  pub from_on : from ≤ at
  pub up_to : at < to
  pub word : first ≡ first_at words at

-- the first word of none of these entries is from `least` to `most`
abbrev pub HasNoSpot : List ℕ → ℕ → ℕ → ℕ → ℕ → Type 0
HasNoSpot words from to least most = (e : ℕ) → from ≤ e → e < to → least ≤ first_at words e → most < first_at words e

-- the entries from `low` up to `high` are all that can have the key where the entry at a place has this first word, and
-- `guess` is one of them
pub record IsReach (from to at first key low high guess : ℕ) : Type 0 where
  pub from_on : from ≤ low
  pub ordered : low ≤ high
  pub up_to : high ≤ to
  pub low_guess : low < high → low ≤ guess
  pub high_guess : low < high → guess < high
  pub before : (e : ℕ) → from ≤ e → e < low → (e < at) × (first < key + (at - e))
  pub behind : (e : ℕ) → high ≤ e → e < to → (at ≤ e) × (key < first + (e - at))

-- all entries of the address have one shape
abbrev pub AreAlike : List ℕ → ℕ → ℕ → ℕ → Type 0
AreAlike words from to a = (d e : ℕ) → from ≤ d → d < to → from ≤ e → e < to → first_at words d / 2 ^ 32 ≡ a
    → first_at words e / 2 ^ 32 ≡ a → first_at words d / 65536 ≡ first_at words e / 65536

-- all entries of the address are marked
abbrev pub AreMarked : List ℕ → ℕ → ℕ → ℕ → Type 0
AreMarked words from to a = (e : ℕ) → from ≤ e → e < to → first_at words e / 2 ^ 32 ≡ a → mark_of (first_at words e) ≡ 1

-- the end of the tunnel is that of an entry with the address that owns what is wanted
pub record IsTunnelOfOwner (words : List ℕ) (from to a : ℕ) (w : Want) (b4 : ℕ) : Type 0 where
  pub first : ℕ
  pub address : first / 2 ^ 32 ≡ a
  pub found : IsFound words from to first w b4

-- no entry with the address owns what is wanted
abbrev pub HasNoOwner : List ℕ → ℕ → ℕ → ℕ → Want → Type 0
HasNoOwner words from to a w = (e : ℕ) (x : Binding) → from ≤ e → e < to → IsFirstOf (first_at words e) x → x.v4.0 ≡ a → owns w x ≡ false

-- whether some of these entries has the address
abbrev pub TellsAddress : List ℕ → ℕ → ℕ → ℕ → Bool → Type 0
TellsAddress words from to a true = (e : ℕ) × (from ≤ e) × (e < to) × (first_at words e / 2 ^ 32 ≡ a)
TellsAddress words from to a false = (e : ℕ) → from ≤ e → e < to → first_at words e / 2 ^ 32 ≢ a
