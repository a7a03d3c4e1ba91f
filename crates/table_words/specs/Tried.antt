-- What the parts of a lookup cost, and how far the trying of shapes has come. No public contract cites these.
use Rattle.std.specs.Prelude.{◌≡◌, ℕ, ◌+◌, ◌-◌, ◌*◌, ◌^◌, ◌/◌, ◌<◌, ◌≤◌, false, List, Option, IfSome}
use Rattle.aftr_base.specs.declared.numbers.V6.{V6}
use Rattle.binding_rules.specs.Bindings.{owns}
use Rattle.binding_rules.specs.declared.binding.Binding.{Binding}
use Rattle.binding_rules.specs.declared.binding.Want.{Want}
use Rattle.table_words.specs.Bounds.{count_below, has_shape, most_shapes}
use Rattle.table_words.specs.Spans.{first_at, AreEntriesOf, IsFirstOf}

-- after so many steps a search among entries of `digits` digits has narrowed them down to `width` of them
pub record IsNarrowed (digits width spent : ℕ) : Type 0 where
  pub left : ℕ
  pub narrow : width < 2 ^ left
  pub fewer : left ≤ digits
  pub few : spent + left ≤ digits + 4

-- from so many steps to so many the shapes of an address were tried among these entries, with this answer
pub record IsTryingBounded (words : List ℕ) (from to : ℕ) (end : Option V6) (old new : ℕ) : Type 0 where
  pub bound : (bindings : List Binding) (d : ℕ) → AreEntriesOf bindings words from to → to - from < 2 ^ d → new ≤ old + most_shapes bindings *
      (2 * d + 2) + d + 1
  pub found : IfSome end (λ _. (bindings : List Binding) (d : ℕ) → AreEntriesOf bindings words from to → to - from < 2 ^ d
      → new ≤ old + most_shapes bindings * (2 * d + 2) + 2)

-- the same for an address whose entries have this mark
pub record IsOwnerBounded (words : List ℕ) (from to mark : ℕ) (end : Option V6) (old new : ℕ) : Type 0 where
  pub alike : mark ≡ 0 → (d : ℕ) → to - from < 2 ^ d → new ≤ old + d + 3
  pub mixed : mark ≡ 1 → IsTryingBounded words from to end old new

-- how many shapes of a mixed address are tried, below this first word
abbrev pub tried_shapes : List Binding → ℕ → ℕ → ℕ
tried_shapes bindings a least = count_below (has_shape bindings a) ((least - a * 2 ^ 32) / 65536 - 32768)

-- each shape took two searches among entries that have so many digits
pub record IsTriedIn (bindings : List Binding) (a d least spent : ℕ) : Type 0 where
  pub few : tried_shapes bindings a least ≤ most_shapes bindings
  pub cost : spent ≤ tried_shapes bindings a least * (2 * d + 2)

-- none of the address's entries below this first word owns what is wanted
pub record AreTried (words : List ℕ) (a : ℕ) (w : Want) (first to from least spent : ℕ) : Type 0 where
  pub within : first ≤ from
  pub at_least : a * 2 ^ 32 ≤ least
  pub at_most : least ≤ a * 2 ^ 32 + 2 ^ 32
  pub below : (e : ℕ) → first ≤ e → e < from → first_at words e < least
  pub none_owns : (e : ℕ) (x : Binding) → first ≤ e → e < to → first_at words e < least → IsFirstOf (first_at words e) x → x.v4.0 ≡ a → owns w x ≡ false
  pub tried : (bindings : List Binding) (d : ℕ) → AreEntriesOf bindings words first to → to - first < 2 ^ d → IsTriedIn bindings a d least spent
