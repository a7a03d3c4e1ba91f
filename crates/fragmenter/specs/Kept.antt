-- The options that all pieces of a packet carry (RFC 791, section 3.1, "Options").
use Rattle.std.specs.Prelude.{ℕ, zero, suc, ◌-◌, ◌%◌, ◌==◌, nat_lt, Bool, ◌||◌, if◌then◌else◌, List, [], ◌∷◌, ◌++◌, length, take, drop, slice_index}

-- how many bytes the first option has: No Operation (1) is one byte, and any other says it in its second byte
abbrev pub option_len : List ℕ → ℕ
option_len left = if slice_index left 0 == 1 then 1 else slice_index left 1

-- an option that has fewer bytes than its type and its length byte, or, where it is No Operation, than its type; or more than are left
abbrev pub is_broken : List ℕ → Bool
is_broken left = nat_lt (option_len left) (if slice_index left 0 == 1 then 1 else 2) || nat_lt (length left) (option_len left)

-- no option follows: nothing is left, the End of Options (0) stands there, or an option that is broken
abbrev pub ends : List ℕ → Bool
ends left = (length left == 0) || (slice_index left 0 == 0) || is_broken left

-- the option, where its copied flag is set: the highest bit of its type
abbrev pub if_copied : List ℕ → List ℕ
if_copied option = if nat_lt (slice_index option 0) 128 then [] else option

-- The options with the copied flag, in order. Each has a byte at least, so there are no more options than bytes.
abbrev pub kept_within : ℕ → List ℕ → List ℕ
kept_within zero left = []
kept_within (suc options) left =
    if ends left then [] else if_copied (take (option_len left) left) ++ kept_within options (drop (option_len left) left)

abbrev pub kept : List ℕ → List ℕ
kept options = kept_within (length options) options

-- zeros that fill up a word of four bytes
abbrev pub padding : ℕ → List ℕ
padding len = take ((4 - len % 4) % 4) (0 ∷ 0 ∷ 0 ∷ [])

-- the options of every piece but the first
abbrev pub copied_of : List ℕ → List ℕ
copied_of options = kept options ++ padding (length (kept options))
