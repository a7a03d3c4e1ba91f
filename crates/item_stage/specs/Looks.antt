-- What a look at a few bytes tells.
use Rattle.std.specs.Prelude.{ℕ, ◌%◌, ◌==◌, nat_lt, Bool, false, ◌||◌, ◌&&◌, List, length, Result, Ok, Err}
use Rattle.ip_codec.specs.Packet4.{ip4_of, is_plain, word}
use Rattle.ip_codec.specs.Packet6.{Packet6}
use Rattle.ip_codec.specs.declared.packet6.Ip6Bad.{Ip6Bad}
use Rattle.ipv6_chain.specs.Chains.{is_skipped}

-- an IPv4 header without a bit of a fragment, MF or the offset, or fewer bytes than a header has (RFC 791, section 3.1)
abbrev pub is_uncut : List ℕ → Bool
is_uncut bytes = nat_lt (length bytes) 20 || (word bytes 6 % 16384 == 0)

-- a header that a walk passes, or a Fragment header (RFC 8200, section 4.5)
abbrev pub is_extension : ℕ → Bool
is_extension next = is_skipped next || (next == 44)

-- an IPv6 packet with an IPv4 packet at once behind its fixed header that is no fragment and has no options
abbrev pub carries_plain : Result Packet6 Ip6Bad → Bool
carries_plain (Ok packet) = (packet.next == 4) && is_plain (ip4_of packet.body)
carries_plain (Err why) = false
