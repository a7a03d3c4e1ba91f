-- A lane: the datagrams that wait, by their keys, and what one more piece does.
use Rattle.std.specs.Prelude.{ℕ, ◌+◌, ◌%◌, ◌==◌, Bool, not, ◌&&◌, ◌||◌, if◌then◌else◌, nat_lt, nat_le, List, [], map, filter, length, Option, Some, None}
use Rattle.std.specs.declared.cmp.Ordering.{Ordering}
use Rattle.std.specs.Map.{lookup, set_value, remove_entry}
use Rattle.std.specs.BTreeMap.{is_at, insert_entry}
use Rattle.reassembly_lane.specs.declared.answer.Answer.{Answer}
use Rattle.reassembly_lane.specs.declared.answer.Answer.TheVariants as answer
use Rattle.reassembly_lane.specs.declared.answer.FragBad.TheVariants as bad
use Rattle.reassembly_lane.specs.declared.parts.Part.{Part}
use Rattle.reassembly_lane.specs.declared.piece.Piece.{Piece}
use Rattle.reassembly_lane.specs.declared.piece.Fragment.{Fragment}
use Rattle.reassembly_lane.specs.Parts.{past, longest}
use Rattle.reassembly_lane.specs.Contexts.{Partial, Outcome, with_part}

-- What came: a part of the datagram that the key names, when, and in which record. A source gives no two datagrams on their
-- way the same key (RFC 791, section 3.2; RFC 6864, section 4.3; RFC 8200, section 4.5).
pub record Arrival (K : Type 0) : Type 0 where
  pub key : K
  pub time : ℕ
  pub number : ℕ
  pub part : Part

-- what is kept of a fragment: only that at offset 0 keeps its head
abbrev pub part_of : Fragment → Part
part_of fragment = record {
  offset = fragment.offset;
  more = fragment.more;
  extra = fragment.extra;
  head = if fragment.offset == 0 then fragment.head.now else [];
  body = fragment.body.now;
}

abbrev pub fragment_of : {K : Type 0} → Piece K → Fragment
fragment_of piece = record { offset = piece.offset; more = piece.more; extra = piece.extra; head = piece.head; body = piece.body }

abbrev pub arrival : {K : Type 0} → Piece K → Arrival K
arrival piece = record { key = piece.key; time = piece.time; number = piece.number; part = part_of (fragment_of piece) }

-- how long a datagram waits after its first piece, in nanoseconds: 60 seconds (RFC 8200, section 4.5; for IPv4 the least that
-- RFC 1122, section 3.3.2, recommends)
abbrev pub waiting_time : ℕ
waiting_time = 60000000000

-- how many datagrams wait in a lane (ours)
abbrev pub most_contexts : ℕ
most_contexts = 256

-- whether a datagram that began then still waits. A time before its beginning ends nothing
abbrev pub waits : ℕ → ℕ → Bool
waits time begun = nat_le time (begun + waiting_time)

-- no bytes, or more to follow behind a number of bytes that is no multiple of 8 (RFC 791, section 3.2; RFC 8200, section 4.5)
abbrev pub is_odd : Part → Bool
is_odd part = (length part.body == 0) || (part.more && not (length part.body % 8 == 0))

-- the part ends behind the greatest length of a datagram
abbrev pub is_long : Part → Bool
is_long part = nat_lt longest (part.extra + past part)

-- a datagram of which nothing has come
abbrev pub fresh : ℕ → ℕ → Partial
fresh time number = record { begun = time; number = number; parts = []; refused = None }

-- What comes of a lane.
pub record LaneOutcome (K : Type 0) : Type 0 where
  pub contexts : List (K × Partial)
  pub answer : Answer

abbrev pub answering : {K : Type 0} → Answer → List (K × Partial) → LaneOutcome K
answering answer contexts = record { contexts = contexts; answer = answer }

-- the contexts whose time is not up
abbrev pub open_at : {K : Type 0} → ℕ → List (K × Partial) → List (K × Partial)
open_at time contexts = filter (λ e. waits time e.1.begun) contexts

-- the first numbers of the others, and of all
abbrev pub late_numbers : {K : Type 0} → ℕ → List (K × Partial) → List ℕ
late_numbers time contexts = map (λ e. e.1.number) (filter (λ e. not (waits time e.1.begun)) contexts)

abbrev pub first_numbers : {K : Type 0} → List (K × Partial) → List ℕ
first_numbers contexts = map (λ e. e.1.number) contexts

module _ {K : Type 0} (cmp : K → K → Ordering) where
  -- the contexts with this one at the key, or without it where it ends
  abbrev pub put_back : List (K × Partial) → K → Option Partial → List (K × Partial)
  put_back contexts key None = remove_entry (is_at (cmp key)) contexts
  put_back contexts key (Some partial) = set_value (is_at (cmp key)) contexts partial

  abbrev pub put_new : List (K × Partial) → K → Option Partial → List (K × Partial)
  put_new contexts key None = contexts
  put_new contexts key (Some partial) = insert_entry cmp contexts key partial

  abbrev pub going_on : List (K × Partial) → K → Outcome → LaneOutcome K
  going_on contexts key outcome = answering outcome.answer (put_back contexts key outcome.left)

  abbrev pub beginning : List (K × Partial) → K → Outcome → LaneOutcome K
  beginning contexts key outcome = answering outcome.answer (put_new contexts key outcome.left)

  -- by whether a datagram with the key waits; one whose time is up makes room for the new one
  abbrev pub found : List (K × Partial) → Arrival K → Option Partial → LaneOutcome K
  found contexts piece (Some partial) = going_on contexts piece.key (with_part partial piece.part)
  found contexts piece None =
      if nat_le most_contexts (length (open_at piece.time contexts)) then answering (answer.Refused bad.Full) contexts
      else beginning contexts piece.key (with_part (fresh piece.time piece.number) piece.part)

  -- what a piece does among the contexts, of which those whose time is up count no more
  abbrev pub among : List (K × Partial) → Arrival K → LaneOutcome K
  among contexts piece =
      if is_odd piece.part then answering (answer.Refused bad.Odd) contexts
      else if is_long piece.part then answering (answer.Refused bad.Long) contexts
      else found contexts piece (lookup (is_at (cmp piece.key)) (open_at piece.time contexts))

  -- and only those whose time is not up stay, whatever the answer
  abbrev pub fed : List (K × Partial) → Arrival K → LaneOutcome K
  fed contexts piece = answering (among contexts piece).answer (open_at piece.time (among contexts piece).contexts)
