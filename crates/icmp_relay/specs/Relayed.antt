-- The ICMPv4 error by which an ICMPv6 error about a tunnel packet reaches the source of the IPv4 packet in it (RFC 2473,
-- section 8).
use Rattle.std.specs.Prelude.{◌≡◌, ℕ, List, Some}
use Rattle.aftr_base.specs.declared.numbers.V4.{V4}
use Rattle.icmp_errors.specs.Errors4.{TellsOf, error4}
use Rattle.icmp_codec.specs.Quoted.{embedded_of}
use Rattle.icmp_relay.specs.Quotes.{inner_packet}
use Rattle.icmp_relay.specs.declared.quotes.Quote.{Quote}

-- destination unreachable with this code and the size of the next link in the low 16 bits, to the source of the quoted
-- packet, whose first bytes it quotes
abbrev pub relayed : V4 → ℕ → ℕ → Quote → List ℕ
relayed own code mtu q = error4 own q.src 3 code mtu q.packet.now

-- What the source of the quoted packet finds in it, where the quote is one that `read_quote` reads: an error about its packet.
abbrev pub TellsInner : V4 → ℕ → ℕ → Quote → List ℕ → Type 0
TellsInner own code mtu q bytes = embedded_of q.packet.now ≡ Some (inner_packet q) →
    TellsOf own q.src 3 code mtu q.packet.now (inner_packet q) bytes
