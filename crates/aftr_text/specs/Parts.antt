-- The words behind a command's own, taken apart: its arguments, and the values of its options. Ours.
use Rattle.std.specs.Prelude.{◌==◌, ℕ, Bool, ◌&&◌, nat_lt, if◌then◌else◌, List, [], ◌∷◌, ◌++◌, bytes_eq}
use Rattle.std.specs.Prelude.{codes, length, map, slice_index, Option, Some, None, option_map}
use Rattle.std.specs.List.{before_first, after_first, position_or_len}
use Rattle.std.specs.Borrow.{Bor}
use Rattle.aftr_text.specs.declared.parts.Slot.{Slot}
use Rattle.aftr_text.specs.declared.parts.Slot.TheVariants.{Workers, Errors}

-- the bytes of each word
abbrev pub texts : List (Bor (List ℕ)) → List (List ℕ)
texts words = map (λ w. w.now) words

pub record Parts : Type 0 where
  pub arguments : List (List ℕ)
  -- each value that the option `--workers` is given, in order
  pub workers : List (List ℕ)
  -- each value that the option `--errors` is given, in order
  pub errors : List (List ℕ)

abbrev pub no_parts : Parts
no_parts = record { arguments = []; workers = []; errors = [] }

-- What one word is by itself: the mark behind which all words are arguments, an option whose value is the next word, an
-- option with its value, a word that begins like an option and is none, or an argument.
pub data Kind : Type 0 where
  ends : Kind
  wants : Slot → Kind
  gives : Slot → List ℕ → Kind
  unknown : Kind
  argument : Kind

-- the option of this name
abbrev pub slot_of : List ℕ → Option Slot
slot_of name =
    if bytes_eq name (codes "--workers") then Some Workers
    else if bytes_eq name (codes "--errors") then Some Errors
    else None

-- an equals sign, which stands between an option and its value
abbrev pub is_sign : ℕ → Bool
is_sign b = b == 61

abbrev pub has_sign : List ℕ → Bool
has_sign word = nat_lt (position_or_len is_sign word) (length word)

-- a word that names no option: it may not begin with `-`, but for the word `-` itself
abbrev pub plain_kind : List ℕ → Kind
plain_kind word = if nat_lt 1 (length word) && (slice_index word 0 == 45) then unknown else argument

abbrev pub or_plain : List ℕ → (Slot → Kind) → Option Slot → Kind
or_plain word kind None = plain_kind word
or_plain word kind (Some slot) = kind slot

abbrev pub kind_of : List ℕ → Kind
kind_of word =
    if bytes_eq word (codes "--") then ends
    else if has_sign word then or_plain word (λ slot. gives slot (after_first is_sign word)) (slot_of (before_first is_sign word))
    else or_plain word wants (slot_of word)

abbrev pub with_argument : List ℕ → Parts → Parts
with_argument word p = record p { arguments = word ∷ p.arguments }

abbrev pub with_value : Slot → List ℕ → Parts → Parts
with_value Workers value p = record p { workers = value ∷ p.workers }
with_value Errors value p = record p { errors = value ∷ p.errors }

-- the parts of a word of this kind and of the words behind it
abbrev pub parts_by : Kind → List ℕ → List (List ℕ) → (Option Slot → Option Parts) → Option Parts
parts_by ends word rest more = Some (record no_parts { arguments = rest })
parts_by (wants slot) word rest more = more (Some slot)
parts_by (gives slot value) word rest more = option_map (with_value slot value) (more None)
parts_by unknown word rest more = None
parts_by argument word rest more = option_map (with_argument word) (more None)

-- The parts of the words, if they have some. The first argument is the option in front of them that still waits for its
-- value.
abbrev pub parts_of : Option Slot → List (List ℕ) → Option Parts
parts_of None [] = Some no_parts
parts_of (Some slot) [] = None
parts_of (Some slot) (word ∷ rest) = option_map (with_value slot word) (parts_of None rest)
parts_of None (word ∷ rest) = parts_by (kind_of word) word rest (λ waiting. parts_of waiting rest)

-- these parts in front of those
abbrev pub in_front : Parts → Parts → Parts
in_front p q = record { arguments = p.arguments ++ q.arguments; workers = p.workers ++ q.workers; errors = p.errors ++ q.errors }
