-- Where a chain of IPv6 extension headers ends (RFC 8200, section 4). That a Hop-by-Hop Options header elsewhere than in front,
-- a second Fragment header and a Routing header with segments left end the walk with a refusal is this router's own choice.
use Rattle.std.specs.Prelude.{ℕ, zero, suc, ◌+◌, ◌*◌, ◌/◌, ◌%◌, ◌==◌, nat_lt, Bool, true, false, not, ◌||◌, ◌&&◌}
use Rattle.std.specs.Prelude.{if◌then◌else◌, List, length, drop, slice_index, Some, None, Result, Ok, Err}
use Rattle.aftr_base.specs.Numbers.{big_endian, span}
use Rattle.ipv6_chain.specs.declared.headers.Start.{Start}
use Rattle.ipv6_chain.specs.declared.headers.Start.TheVariants.{Packet, AfterFragment}
use Rattle.ipv6_chain.specs.declared.headers.Frag.{Frag}
use Rattle.ipv6_chain.specs.declared.headers.Chain.{Chain}
use Rattle.ipv6_chain.specs.declared.headers.ChainBad.{ChainBad}
use Rattle.ipv6_chain.specs.declared.headers.ChainBad.TheVariants as bad

-- the walk is over a packet's own body, and not over what a Fragment header carried
abbrev pub is_packet : Start → Bool
is_packet Packet = true
is_packet AfterFragment = false

-- the headers that are passed: Hop-by-Hop Options, Routing and Destination Options
abbrev pub is_skipped : ℕ → Bool
is_skipped next = (next == 0) || (next == 43) || (next == 60)

-- how many bytes such a header has: its second byte counts those past the first eight, in units of 8 (RFC 8200, section 4.3)
abbrev pub header_len : List ℕ → ℕ
header_len left = 8 * (1 + slice_index left 1)

-- fewer bytes are left than such a header has
abbrev pub is_short : List ℕ → Bool
is_short left = nat_lt (length left) 8 || nat_lt (length left) (header_len left)

-- a Hop-by-Hop Options header stands in front of all others, or nowhere (RFC 8200, section 4.1)
abbrev pub is_misplaced : ℕ → ℕ → Start → Bool
is_misplaced next at start = (next == 0) && not ((at == 0) && is_packet start)

-- a Routing header whose segments are not used up (RFC 8200, section 4.4)
abbrev pub has_segments : ℕ → List ℕ → Bool
has_segments next left = (next == 43) && not (slice_index left 3 == 0)

-- the fields of a Fragment header: the offset in the top 13 bits of its second word, M in the lowest (RFC 8200, section 4.5)
abbrev pub fragment_of : List ℕ → Frag
fragment_of left = record {
  offset = big_endian (span left 2 2) / 8;
  more = big_endian (span left 2 2) % 2 == 1;
  id = big_endian (span left 4 4);
}

-- a chain that comes to a Fragment header ends behind it
abbrev pub fragment_end : ℕ → List ℕ → Start → Result Chain ChainBad
fragment_end at left start =
    if not (is_packet start) then Err bad.Order
    else if nat_lt (length left) 8 then Err bad.Short
    else Ok (record { next = slice_index left 0; at = at + 8; fragment = Some (fragment_of left) })

-- The chain that goes on with the header numbered `next`, where `left` is what is left of the body from the place `at` on: a
-- header that is passed gives the chain of what follows it, and anything else ends it. Each header that is passed has at least
-- 8 bytes, so a chain has no more headers than bytes, and the count of them never runs out.
abbrev pub chain_within : ℕ → ℕ → ℕ → List ℕ → Start → Result Chain ChainBad
chain_within zero next at left start = Err bad.Short
chain_within (suc headers) next at left start =
    if is_skipped next then
    (if is_misplaced next at start then Err bad.Order
    else if is_short left then Err bad.Short
    else if has_segments next left then Err bad.Routing
    else chain_within headers (slice_index left 0) (at + header_len left) (drop (header_len left) left) start)
    else if next == 44 then fragment_end at left start
    else Ok (record { next = next; at = at; fragment = None })

abbrev pub chain_from : ℕ → ℕ → List ℕ → Start → Result Chain ChainBad
chain_from next at left start = chain_within (suc (length left)) next at left start

-- the chain of a body whose first header has the number `next`
abbrev pub chain_of : ℕ → List ℕ → Start → Result Chain ChainBad
chain_of next body start = chain_from next 0 body start
