-- The parts of one datagram, each with the place of its first byte (RFC 791, section 3.2; RFC 8200, section 4.5).
use Rattle.std.specs.Prelude.{ℕ, zero, suc, ◌+◌, ◌-◌, ◌*◌, ◌==◌, Bool, true, false, not, ◌&&◌, ◌||◌, if◌then◌else◌, nat_lt, nat_le}
use Rattle.std.specs.Prelude.{List, [], ◌∷◌, map, length, get_or, Option, Some, None, bytes_eq, find, unwrap_or}
use Rattle.std.specs.List.{list_any, range_with_len}
use Rattle.reassembly_lane.specs.declared.answer.Answer.{Answer}
use Rattle.reassembly_lane.specs.declared.answer.Answer.TheVariants as answer
use Rattle.reassembly_lane.specs.declared.answer.FragBad.TheVariants as bad
use Rattle.reassembly_lane.specs.declared.parts.Part.{Part}

-- where the bytes of a part stand in its datagram: from `start` on, and before `past`. Offsets count 8 bytes
abbrev pub start : Part → ℕ
start part = 8 * part.offset

abbrev pub past : Part → ℕ
past part = start part + length part.body

abbrev pub same_bool : Bool → Bool → Bool
same_bool a b = if a then b else not b

-- a fragment that came twice, which is not taken for an overlap (RFC 8200, section 4.5; ours for IPv4)
abbrev pub is_same : Part → Part → Bool
is_same a b = (a.offset == b.offset) && same_bool a.more b.more && bytes_eq a.body b.body

-- two parts share a byte of their datagram
abbrev pub overlap : Part → Part → Bool
overlap a b = nat_lt (start a) (past b) && nat_lt (start b) (past a)

-- the first is the datagram's last part, and the second is last too or ends behind it
abbrev pub ends_before : Part → Part → Bool
ends_before a b = not a.more && (not b.more || nat_lt (past a) (past b))

-- two parts that cannot both be right. RFC 5722, section 4, gives up datagrams with an overlap; that IPv4 datagrams are
-- given up too, and what is said of last parts, is ours
abbrev pub clash : Part → Part → Bool
clash a b = overlap a b || ends_before a b || ends_before b a

-- whether a part holds the byte at this place of the datagram
abbrev pub holds : ℕ → Part → Bool
holds place part = nat_le (start part) place && nat_lt place (past part)

-- every byte in front of this place stands in a part
abbrev pub covered : List Part → ℕ → Bool
covered parts zero = true
covered parts (suc place) = list_any (holds place) parts && covered parts place

-- where the datagram ends: behind its last part
abbrev pub end_of : List Part → Option ℕ
end_of [] = None
end_of (part ∷ parts) = if part.more then end_of parts else Some (past part)

abbrev pub end_if_covered : List Part → Option ℕ → Option ℕ
end_if_covered parts None = None
end_if_covered parts (Some end) = if covered parts end then Some end else None

-- where a whole datagram ends: it has a last part, and every byte in front of its end
abbrev pub whole_end : List Part → Option ℕ
whole_end parts = end_if_covered parts (end_of parts)

abbrev pub no_part : Part
no_part = record { offset = 0; more = false; extra = 0; head = []; body = [] }

-- the byte at a place of the datagram, in the part that holds it
abbrev pub byte_in : ℕ → Part → ℕ
byte_in place part = get_or part.body (place - start part) 0

abbrev pub byte_at : List Part → ℕ → ℕ
byte_at parts place = byte_in place (unwrap_or (find (holds place) parts) no_part)

-- the datagram put together
abbrev pub datagram : List Part → ℕ → List ℕ
datagram parts end = map (byte_at parts) (range_with_len 0 end)

-- the part with the datagram's first byte
abbrev pub first_of : List Part → Part
first_of parts = unwrap_or (find (holds 0) parts) no_part

-- the greatest length of a datagram (RFC 791, section 3.1; RFC 8200, section 4.5)
abbrev pub longest : ℕ
longest = 65535

-- the answer where the datagram is whole: the head of its first part and its bytes, unless what counts beside them makes it
-- too long
abbrev pub whole_answer : List Part → ℕ → Answer
whole_answer parts end =
    if nat_lt longest ((first_of parts).extra + end) then answer.Refused bad.Long
    else answer.Whole (first_of parts).head (datagram parts end)
