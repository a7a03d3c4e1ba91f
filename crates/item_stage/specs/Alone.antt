-- What a record is by itself, before any fragment waits.
use Rattle.std.specs.Prelude.{ℕ, ◌==◌, Bool, true, false, not, ◌||◌, if◌then◌else◌, List, drop, Option, Some, None, Result, Ok, Err}
use Rattle.capture_io.specs.Frames.{Carried, carried}
use Rattle.capture_io.specs.Frames.Carried.{Packet4, Packet6, TooFew, Other}
use Rattle.capture_io.specs.declared.forms.Form.{Form}
use Rattle.ip_codec.specs.Packet4 as four
use Rattle.ip_codec.specs.Packet6 as six
use Rattle.ip_codec.specs.declared.packet4.Ip4Bad.{Ip4Bad}
use Rattle.ip_codec.specs.declared.packet4.Ip4Bad.TheVariants as bad4
use Rattle.ip_codec.specs.declared.packet6.Ip6Bad.{Ip6Bad}
use Rattle.ip_codec.specs.declared.items.Outer.{Outer}
use Rattle.ip_codec.specs.declared.items.Item.{Item}
use Rattle.ip_codec.specs.declared.items.Item.TheVariants as item
use Rattle.ip_codec.specs.declared.rules.Rule.{Rule}
use Rattle.ip_codec.specs.declared.rules.Rule.TheVariants as rule
use Rattle.ipv6_chain.specs.Chains.{chain_of}
use Rattle.ipv6_chain.specs.declared.headers.Chain.{Chain}
use Rattle.ipv6_chain.specs.declared.headers.ChainBad.{ChainBad}
use Rattle.ipv6_chain.specs.declared.headers.Frag.{Frag}
use Rattle.ipv6_chain.specs.declared.headers.Start.TheVariants as start
use Rattle.item_stage.specs.Fragments.{down_key, inner_key, outer_key, part_of4, part_of6}
use Rattle.item_stage.specs.declared.keys.DownKey.{DownKey}
use Rattle.item_stage.specs.declared.keys.InnerKey.{InnerKey}
use Rattle.item_stage.specs.declared.keys.OuterKey.{OuterKey}
use Rattle.reassembly_lane.specs.declared.parts.Part.{Part}

-- What an IPv6 packet carries, its Fragment header left behind: an item, or a fragment of an IPv4 datagram in the tunnel.
pub data Inside : Type 0 where
  Settled : Item → Inside
  Fragment : Outer → InnerKey → Part → Inside

-- What a record is: an item, a fragment of a datagram from the IPv4 network, a fragment of a tunnel packet, or what that carries.
pub data Alone : Type 0 where
  Ready : Item → Alone
  Downstream : DownKey → Part → Alone
  CutPart : Outer → OuterKey → Part → Alone
  Carries : Inside → Alone

-- the fields of an outer header that a judgement and its replies need (RFC 8200, section 3)
abbrev pub outer_of : six.Packet6 → Outer
outer_of packet = record {
  word = packet.word;
  hop = packet.hop;
  src = record { 0 = packet.src };
  dst = record { 0 = packet.dst };
}

-- the rule of bytes from the IPv4 network that are no IPv4 packet
abbrev pub refused_from_network : Ip4Bad → Rule
refused_from_network bad4.Checksum = rule.Ip4Checksum
refused_from_network (bad4.Short have) = rule.Ip4Malformed
refused_from_network bad4.Version = rule.Ip4Malformed
refused_from_network bad4.HeaderLength = rule.Ip4Malformed
refused_from_network bad4.TotalLength = rule.Ip4Malformed

-- an IPv4 packet from the IPv4 network, by what its bytes are read as; what stands behind its total length is left out
abbrev pub from_network : Result four.Packet4 Ip4Bad → Alone
from_network (Ok packet) =
    if four.is_fragment packet then Downstream (down_key packet) (part_of4 packet) else Ready (item.Down (four.whole4 packet))
from_network (Err why) = Ready (item.Bad (refused_from_network why))

-- What stands in the tunnel, by what its bytes are read as: an IPv4 packet is cut to its total length, anything else stays as
-- it came, and is judged later (RFC 2473, section 3.3; RFC 7596, section 6.2).
abbrev pub in_tunnel : Outer → List ℕ → Result four.Packet4 Ip4Bad → Inside
in_tunnel outer bytes (Ok packet) =
    if four.is_fragment packet then Fragment outer (inner_key outer packet) (part_of4 packet) else Settled (item.Up outer (four.whole4 packet))
in_tunnel outer bytes (Err why) = Settled (item.Up outer bytes)

-- What stands behind the last header: 4 is IPv4 in IPv6 (RFC 2473, section 5), 58 is ICMPv6 (RFC 4443, section 1).
abbrev pub behind_headers : Outer → ℕ → List ℕ → Inside
behind_headers outer next bytes =
    if next == 4 then in_tunnel outer bytes (four.ip4_of bytes)
    else if next == 58 then Settled (item.Icmp6 outer.src outer.dst bytes)
    else Settled (item.OtherIp6 outer.dst)

-- what a Fragment header carried, whole: further headers may stand in it, but no second Fragment header (RFC 8200, section 4.5)
abbrev pub by_inner_chain : Outer → List ℕ → Result Chain ChainBad → Inside
by_inner_chain outer body (Ok chain) = behind_headers outer chain.next (drop chain.at body)
by_inner_chain outer body (Err why) = Settled (item.Bad rule.Ip6Chain)

abbrev pub behind_fragment : Outer → ℕ → List ℕ → Inside
behind_fragment outer next body = by_inner_chain outer body (chain_of next body start.AfterFragment)

-- a Fragment header of a packet that was not cut: offset 0, and nothing follows (RFC 8200, section 4.5)
abbrev pub is_cut : Frag → Bool
is_cut fragment = not (fragment.offset == 0) || fragment.more

-- by the Fragment header that the chain ends behind, if it does
abbrev pub at_end : Outer → ℕ → List ℕ → Option Frag → Alone
at_end outer next bytes None = Carries (behind_headers outer next bytes)
at_end outer next bytes (Some fragment) =
    if is_cut fragment then CutPart outer (outer_key outer fragment.id) (part_of6 fragment.offset fragment.more next bytes)
    else Carries (behind_fragment outer next bytes)

abbrev pub by_chain : Outer → List ℕ → Result Chain ChainBad → Alone
by_chain outer body (Ok chain) = at_end outer chain.next (drop chain.at body) chain.fragment
by_chain outer body (Err why) = Ready (item.Bad rule.Ip6Chain)

-- an IPv6 packet, by what its bytes are read as
abbrev pub from_tunnel : Result six.Packet6 Ip6Bad → Alone
from_tunnel (Ok packet) = by_chain (outer_of packet) packet.body (chain_of packet.next packet.body start.Packet)
from_tunnel (Err why) = Ready (item.Bad rule.Ip6Malformed)

-- what a frame carries
abbrev pub in_frame : Carried → Alone
in_frame (Packet4 bytes) = from_network (four.ip4_of bytes)
in_frame (Packet6 bytes) = from_tunnel (six.ip6_of bytes)
in_frame TooFew = Ready (item.Bad rule.FrameShort)
in_frame Other = Ready (item.Bad rule.FrameType)

-- what a record's bytes are, in a capture of this form
abbrev pub alone_of : Form → List ℕ → Alone
alone_of form bytes = in_frame (carried form.link bytes)

-- whether a lane takes something of it
abbrev pub is_piece : Inside → Bool
is_piece (Settled ready) = false
is_piece (Fragment outer key part) = true

abbrev pub needs_lane : Alone → Bool
needs_lane (Ready ready) = false
needs_lane (Downstream key part) = true
needs_lane (CutPart outer key part) = true
needs_lane (Carries inside) = is_piece inside

-- the item of it alone: each fragment waits
abbrev pub item_inside : Inside → Item
item_inside (Settled ready) = ready
item_inside (Fragment outer key part) = item.Held

abbrev pub item_alone : Alone → Item
item_alone (Ready ready) = ready
item_alone (Downstream key part) = item.Held
item_alone (CutPart outer key part) = item.Held
item_alone (Carries inside) = item_inside inside

-- the item of a record's bytes where nothing else came
abbrev pub item_of : Form → List ℕ → Item
item_of form bytes = item_alone (alone_of form bytes)
