-- The packets that are sent for an item (RFC 7596, section 6.2; RFC 1812, section 5.2.1).
use Rattle.std.specs.Prelude.{ℕ, Bool, true, false, List, [], ◌∷◌, Option, Some, None, Result, Ok, Err, option_map, option_and_then, unwrap_or}
use Rattle.aftr_base.specs.declared.numbers.V4.{V4}
use Rattle.aftr_base.specs.declared.numbers.V6.{V6}
use Rattle.fragmenter.specs.Pieces4.{pieces4}
use Rattle.fragmenter.specs.Pieces6.{pieces6}
use Rattle.icmp_codec.specs.Message6.{icmp6_of}
use Rattle.icmp_errors.specs.Errors4.{error4, exceeded_bytes, too_big_bytes, unreachable_bytes}
use Rattle.icmp_errors.specs.Policy6.{policy6}
use Rattle.icmp_relay.specs.Quotes.{TunnelQuote, quote_of}
use Rattle.ip_codec.specs.Packet4.{Packet4, ip4_of, whole4}
use Rattle.ip_codec.specs.declared.items.Item.{Item}
use Rattle.ip_codec.specs.declared.items.Item.TheVariants as item
use Rattle.softwire_encap.specs.Passing.{lowered, passed}
use Rattle.softwire_encap.specs.Tunnel.{tunnelled, wrapped}
use Rattle.verdict_core.specs.Fitting.{ipv4_bytes}
use Rattle.verdict_core.specs.declared.verdicts.Path.{Path}
use Rattle.verdict_core.specs.declared.verdicts.Path.TheVariants as path
use Rattle.verdict_core.specs.declared.verdicts.Reply.{Reply}
use Rattle.verdict_core.specs.declared.verdicts.Reply.TheVariants as reply
use Rattle.verdict_core.specs.declared.verdicts.Verdict.{Verdict}
use Rattle.verdict_core.specs.declared.verdicts.Verdict.TheVariants as verdict

-- what was read, where it could be
abbrev pub if_ok : {A E : Type 0} → Result A E → Option A
if_ok (Ok read) = Some read
if_ok (Err refusal) = None

-- the item's IPv4 packet, where it has one that can be read
abbrev pub packet_of_item : Item → Option Packet4
packet_of_item i = option_and_then (λ bytes. if_ok (ip4_of bytes)) (ipv4_bytes i)

-- the tunnel packet that the item's ICMPv6 message quotes, where both can be read
abbrev pub quote_of_item : Item → Option TunnelQuote
quote_of_item (item.Icmp6 src dst bytes) = option_and_then (λ message. if_ok (quote_of message.rest)) (if_ok (icmp6_of src.0 dst.0 bytes))
quote_of_item _ = None

-- what is made of a value, where there is one
abbrev pub made_of : {A : Type 0} → Option A → (A → List (List ℕ)) → List (List ℕ)
made_of value packets = unwrap_or (option_map packets value) []

-- the packet that goes out: in pieces where it does not fit the IPv4 network (RFC 791, section 3.2)
abbrev pub outward : ℕ → Packet4 → List (List ℕ)
outward mtu packet = pieces4 (passed packet) mtu

-- The packet that goes to a subscriber, in the tunnel: the tunnel packet is cut where it does not fit, and the packet in it
-- stays whole (RFC 2473, section 7.2; RFC 7596, section 6.2). The number of its record is the identification (ours).
abbrev pub inward : V6 → V6 → ℕ → ℕ → ℕ → Packet4 → List (List ℕ)
inward from to hop mtu number packet =
    pieces6 (wrapped from to hop (lowered packet)) (tunnelled from to hop (lowered packet)) mtu number

-- the item's own packet goes on: out, or to a subscriber
abbrev pub is_forwarded : Verdict → Bool
is_forwarded (verdict.Outward mtu) = true
is_forwarded (verdict.Inward from to hop mtu back) = true
is_forwarded (verdict.Drop why told) = false
is_forwarded verdict.Held = false

-- a reply goes as it is, or in the tunnel to the sender (RFC 7596, section 6.2)
abbrev pub along : Path → List ℕ → List ℕ
along path.Plain packet = packet
along (path.Tunnel hop from to) packet = wrapped from to hop packet

-- the ICMPv6 error to the subscriber's end of the tunnel that the packet's source failed the policy; it quotes the packet as it
-- was in the tunnel, without what stood behind its total length (ours)
abbrev pub policies : Item → V6 → V6 → ℕ → Packet4 → List (List ℕ)
policies (item.Up outer inner) from to hop packet = policy6 from to hop outer (whole4 packet) ∷ []
policies _ from to hop packet = []

-- an ICMPv6 error about a tunnel packet, passed on to the source of the packet in it (RFC 2473, section 8)
abbrev pub relayed_bytes : V4 → ℕ → ℕ → TunnelQuote → List ℕ
relayed_bytes own code mtu quote = error4 own (record { 0 = quote.inner.src }) 3 code mtu quote.packet

-- one packet for each reply; an error quotes the packet as it came
abbrev pub replies : Item → Reply → List (List ℕ)
replies i reply.Silent = []
replies i (reply.Unreachable own way) = made_of (packet_of_item i) (λ packet. along way (unreachable_bytes own packet) ∷ [])
replies i (reply.TooBig own mtu way) = made_of (packet_of_item i) (λ packet. along way (too_big_bytes own mtu packet) ∷ [])
replies i (reply.Exceeded own way) = made_of (packet_of_item i) (λ packet. along way (exceeded_bytes own packet) ∷ [])
replies i (reply.Policy from to hop) = made_of (packet_of_item i) (policies i from to hop)
replies i (reply.Relay own code mtu way) = made_of (quote_of_item i) (λ quote. along way (relayed_bytes own code mtu quote) ∷ [])

-- The packets sent for a verdict that fits the item of the record with this number: what is held sends none, nor does what is
-- dropped in silence.
abbrev pub sent : Item → Verdict → ℕ → List (List ℕ)
sent i verdict.Held number = []
sent i (verdict.Drop why told) number = replies i told
sent i (verdict.Outward mtu) number = made_of (packet_of_item i) (outward mtu)
sent i (verdict.Inward from to hop mtu back) number = made_of (packet_of_item i) (inward from to hop mtu number)
