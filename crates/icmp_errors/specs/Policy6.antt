-- The ICMPv6 error to a subscriber whose packets no binding covers (RFC 7596, section 6.2; RFC 4443, section 3.1).
use Rattle.std.specs.Prelude.{◌≡◌, ℕ, ◌+◌, List, take, min, Ok}
use Rattle.aftr_base.specs.declared.numbers.V6.{V6}
use Rattle.icmp_codec.specs.Message6.{icmp6_bytes, icmp6_of, made_message6}
use Rattle.ip_codec.specs.Packet6.{bytes6, ip6_of, made6}
use Rattle.ip_codec.specs.declared.items.Outer.{Outer}
use Rattle.ip_codec.specs.declared.packet6.Head6.{Head6}

-- As much is quoted as leaves the error at most 1,280 bytes, the least that IPv6 links take: 1,232 behind a header of 40 and
-- the message's first 8 (RFC 4443, section 2.4 (c)).
abbrev pub most_quoted6 : ℕ
most_quoted6 = 1232

-- how many bytes an error has about an inner packet of so many
abbrev pub policy_len : ℕ → ℕ
policy_len inner = 48 + min most_quoted6 (40 + inner)

-- The header of the tunnel packet that came. What stood between it and the inner packet is not kept, so the quote has IPv4
-- behind it and the length of the inner packet (ours).
abbrev pub quoted_head : Outer → Head6
quoted_head outer = record {
  word = outer.word;
  next = 4;
  hop = outer.hop;
  src = outer.src;
  dst = outer.dst;
}

-- the header of the error: version 6, no traffic class and no flow label, and ICMPv6 behind it
abbrev pub policy_head : V6 → V6 → ℕ → Head6
policy_head from to hop = record {
  word = 1610612736;
  next = 58;
  hop = hop;
  src = from;
  dst = to;
}

-- destination unreachable, code 5: the source address failed the policy; byte for byte
abbrev pub policy6 : V6 → V6 → ℕ → Outer → List ℕ → List ℕ
policy6 from to hop outer inner =
    let quote = take most_quoted6 (bytes6 (quoted_head outer) inner) in
    bytes6 (policy_head from to hop) (icmp6_bytes from.0 to.0 1 5 0 quote)

-- What the subscriber finds in it: an IPv6 packet to itself, and in it a message that sums up and quotes the front of the
-- tunnel packet.
pub record TellsPolicy (from to : V6) (hop : ℕ) (outer : Outer) (inner bytes : List ℕ) : Type 0 where
  pub message : List ℕ
  pub packet : ip6_of bytes ≡ Ok (made6 (policy_head from to hop) message)
  pub told : icmp6_of from.0 to.0 message ≡ Ok (made_message6 1 5 0 (take most_quoted6 (bytes6 (quoted_head outer) inner)))
