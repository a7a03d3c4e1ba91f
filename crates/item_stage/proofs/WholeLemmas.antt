-- Records that carry a packet that is no fragment.
use Rattle.std.proofs.Common.{◌≡◌, ◌==◌, ℕ, ◌+◌, ◌*◌, ◌/◌, ◌%◌, ◌^◌, ◌<◌, ◌≤◌, ◌++◌, arith, slice_index, take, Bool, true, false, not, List, length, refl, sym, subst, ◌∙◌, ap, Option, Some, None, is_some, drop, if◌then◌else◌, Result, Ok, Err, is_ok, slice_get}
use Rattle.std.specs.Prelude.{option_and_then}
use Rattle.std.proofs.lemmas.Bool.{and_parts, eqb-true, not-true}
use Rattle.std.proofs.lemmas.List.{get_or-take, length-take-le}
use Rattle.aftr_base.specs.Numbers.{big_endian}
use Rattle.aftr_base.specs.Sums.{checksum}
use Rattle.ip_codec.proofs.Laws.{ip4_of-header4, ip4_of-joined, ip4_of-Ok, ip4_of-shaped}
use Rattle.ip_codec.specs.Packet4 as four
use Rattle.ip_codec.specs.Packet6 as six
use Rattle.ip_codec.specs.declared.items.Item.{Item}
use Rattle.ip_codec.specs.declared.items.Item.TheVariants as item
use Rattle.ip_codec.specs.declared.items.Outer.{Outer}
use Rattle.ip_codec.specs.declared.packet4.Head4.{Head4}
use Rattle.ip_codec.specs.declared.packet4.Ip4Bad.{Ip4Bad}
use Rattle.ip_codec.specs.declared.packet6.Ip6Bad.{Ip6Bad}
use Rattle.ipv6_chain.specs.Chains.{chain_of}
use Rattle.ipv6_chain.specs.declared.headers.Chain.{Chain}
use Rattle.ipv6_chain.specs.declared.headers.ChainBad.{ChainBad}
use Rattle.ipv6_chain.specs.declared.headers.Start.TheVariants as start
use Rattle.item_stage.specs.Alone.{at_end, behind_fragment, behind_headers, by_chain, by_inner_chain, from_network, from_tunnel, in_tunnel, item_alone, outer_of, item_inside}
use Rattle.item_stage.specs.Alone.Inside.{Settled}
use Rattle.item_stage.specs.Items.{items_in}
use Rattle.item_stage.specs.Looks.{carries_plain, is_extension}
use Rattle.item_stage.specs.declared.entries.Entry.{Entry}
use Rattle.item_stage.specs.Packets.{if_packet, packet_at, packet_in}
use Rattle.item_stage.specs.Rejoined.{IsPacket}
use Rattle.item_stage.proofs.LookLemmas.{ends_at_once, span_of_front}

uncut : (packet : four.Packet4) (read : Result four.Packet4 Ip4Bad) → read ≡ Ok packet → four.is_plain read ≡ true → four.is_fragment packet ≡ false
uncut packet read is plain =
    not-true (four.is_fragment packet) (and_parts (not (four.is_fragment packet)) (length packet.header == 20) (sym (ap four.is_plain is) ∙ plain)).0

-- ---- its item
pub network_plain : (packet : four.Packet4) (read : Result four.Packet4 Ip4Bad) → read ≡ Ok packet → four.is_plain read ≡ true →
    item_alone (from_network read) ≡ item.Down (four.whole4 packet)
network_plain packet read is plain =
    ap (λ (r : Result four.Packet4 Ip4Bad). item_alone (from_network r)) is ∙ rw (uncut packet read is plain) refl

carried_plain : (outer : Outer) (bytes : List ℕ) (packet : four.Packet4) (read : Result four.Packet4 Ip4Bad) → read ≡ Ok packet → four.is_plain read ≡ true →
    item_inside (in_tunnel outer bytes read) ≡ item.Up outer (four.whole4 packet)
carried_plain outer bytes packet read is plain =
    ap (λ (r : Result four.Packet4 Ip4Bad). item_inside (in_tunnel outer bytes r)) is ∙ rw (uncut packet read is plain) refl

-- an IPv4 packet at once behind the fixed header
at_once : (outer : Outer) (next : ℕ) (body : List ℕ) → next ≡ 4 →
    item_alone (by_chain outer body (chain_of next body start.Packet)) ≡ item_inside (in_tunnel outer body (four.ip4_of body))
at_once outer next body is =
    ap item_alone (ends_at_once outer next body (ap is_extension is)) ∙ ap (λ (n : ℕ). item_inside (behind_headers outer n body)) is

pub tunnel_at_once : (outer : six.Packet6) (read : Result six.Packet6 Ip6Bad) → read ≡ Ok outer → outer.next ≡ 4 →
    item_alone (from_tunnel read) ≡ item_inside (in_tunnel (outer_of outer) outer.body (four.ip4_of outer.body))
tunnel_at_once outer read is next =
    ap (λ (r : Result six.Packet6 Ip6Bad). item_alone (from_tunnel r)) is ∙ at_once (outer_of outer) outer.next outer.body next

pub carries_reads : (read : Result six.Packet6 Ip6Bad) → carries_plain read ≡ true → is_ok read ≡ true
carries_reads (Ok outer) carries = refl
carries_reads (Err why) carries = absurd cc

pub carries_parts : (outer : six.Packet6) (read : Result six.Packet6 Ip6Bad) → read ≡ Ok outer → carries_plain read ≡ true →
    (outer.next ≡ 4) × (four.is_plain (four.ip4_of outer.body) ≡ true)
carries_parts outer read is carries =
    let both = and_parts (outer.next == 4) (four.is_plain (four.ip4_of outer.body)) (sym (ap carries_plain is) ∙ carries) in (eqb-true outer.next 4 both.0, both.1)

pub tunnel_plain_item : (outer : six.Packet6) (packet : four.Packet4) (read : Result six.Packet6 Ip6Bad) → read ≡ Ok outer → carries_plain read ≡ true →
    four.ip4_of outer.body ≡ Ok packet → item_alone (from_tunnel read) ≡ item.Up (outer_of outer) (four.whole4 packet)
tunnel_plain_item outer packet read is carries inner =
    let parts = carries_parts outer read is carries in
    tunnel_at_once outer read is parts.0 ∙ carried_plain (outer_of outer) outer.body packet (four.ip4_of outer.body) inner parts.1

-- ---- an item that is known to have a packet

-- a packet that was read has the fields that its own header spells, and is the same by its header and payload alone
by_own : (bytes : List ℕ) (packet : four.Packet4) → four.ip4_of bytes ≡ Ok packet → four.fields4 packet.header packet.payload ≡ packet
by_own bytes packet is =
    let spelt = ip4_of-Ok bytes packet is in
    (λ i. four.fields4 (spelt.is i).header (spelt.is i).payload) ∙ sym spelt.is

pub packet_is : (bytes : List ℕ) (packet : four.Packet4) → four.ip4_of bytes ≡ Ok packet → if_packet (four.ip4_of bytes) ≡ Some (four.fields4 packet.header packet.payload)
packet_is bytes packet is = ap if_packet is ∙ ap Some (sym (by_own bytes packet is))

alone : (bytes : List ℕ) (packet : four.Packet4) → four.ip4_of bytes ≡ Ok packet → four.ip4_of (four.whole4 packet) ≡ Ok packet
alone bytes packet is =
    let spelt = ip4_of-Ok bytes packet is in
    let shaped = ip4_of-shaped bytes packet is in
    let len = four.header_len_of bytes in
    let header_is : packet.header ≡ take len bytes = ap (λ (p : four.Packet4). p.header) spelt.is in
    let size : length (take len bytes) ≡ len = length-take-le len bytes (omega (arith, spelt.order, spelt.within)) in
    let first : slice_index packet.header 0 ≡ slice_index bytes 0 =
    ap (λ (l : List ℕ). slice_index l 0) header_is
    ∙ get_or-take len bytes 0 0 (omega (arith, spelt.least)) in
    let total : four.total_len_of packet.header ≡ four.total_len_of bytes =
    ap (λ (l : List ℕ). four.total_len_of l) header_is ∙ ap big_endian (span_of_front len bytes 2 (omega (arith, size, spelt.least))) in
    ip4_of-joined packet.header packet.payload shaped.least_header (ap (λ (n : ℕ). n / 16) first ∙ spelt.version)
    (ap (λ (n : ℕ). 4 * (n % 16)) first ∙ sym shaped.header_len) (total ∙ sym shaped.total_len) (ap checksum header_is ∙ spelt.sum)
    ∙ ap Ok (by_own bytes packet is)

own : (bytes : List ℕ) (packet : four.Packet4) → four.ip4_of bytes ≡ Ok packet → if_packet (four.ip4_of (four.whole4 packet)) ≡ Some packet
own bytes packet is = ap if_packet (alone bytes packet is)

pub is_packet : (bytes : List ℕ) (packet : four.Packet4) → four.ip4_of bytes ≡ Ok packet → four.IsBounded4 packet → IsPacket packet.header packet.payload
is_packet bytes packet is bounded = record {
  reads = alone bytes packet is ∙ ap Ok (sym (by_own bytes packet is));
  bounded = subst four.IsBounded4 (sym (by_own bytes packet is)) bounded;
}

-- and so is one that was made of a header and a payload
pub made_packet : (fields : Head4) (options header payload : List ℕ) → header ≡ four.header4 fields options (length payload) → fields.src.0 < 2 ^ 32 → fields.dst.0 < 2 ^ 32 →
    fields.offset ≤ 8191 → length options % 4 ≡ 0 → length options ≤ 40 → 20 + length options + length payload ≤ 65535 →
    fields.tos ≤ 255 → fields.id ≤ 65535 → fields.ttl ≤ 255 → fields.protocol ≤ 255 → IsPacket header payload
made_packet fields options header payload is src dst offset words few most tos id ttl protocol =
    let packet = four.made4 fields options payload in
    let read : four.ip4_of (header ++ payload) ≡ Ok packet =
    ap (λ (l : List ℕ). four.ip4_of (l ++ payload)) is ∙ ip4_of-header4 fields options payload src dst offset words few in
    let fields_are : four.fields4 header payload ≡ packet = ap (λ (l : List ℕ). four.fields4 l payload) is ∙ by_own (header ++ payload) packet read in
    let shaped = ip4_of-shaped (header ++ payload) packet read in
    let bounded : four.IsBounded4 packet = record {
      tos = tos;
      id = id;
      offset = offset;
      ttl = ttl;
      protocol = protocol;
      whole_words = shaped.whole_words;
      least_header = shaped.least_header;
      most_header = shaped.most_header;
      most = omega (arith, most);
    } in
    record { reads = read ∙ ap Ok (sym fields_are); bounded = subst four.IsBounded4 (sym fields_are) bounded }

pub network_known : (bytes : List ℕ) → is_some (packet_in (item_alone (from_network (four.ip4_of bytes)))) ≡ true →
    packet_in (item_alone (from_network (four.ip4_of bytes))) ≡ if_packet (four.ip4_of bytes)
network_known bytes known = by_reading (four.ip4_of bytes) refl known
  where
    found : Result four.Packet4 Ip4Bad → Option four.Packet4
    found read = packet_in (item_alone (from_network read))

    by_fragment : (packet : four.Packet4) → four.ip4_of bytes ≡ Ok packet → (cut : Bool) → four.is_fragment packet ≡ cut → is_some (found (Ok packet)) ≡ true →
        found (Ok packet) ≡ Some packet
    by_fragment packet is true cut some = let none : is_some (found (Ok packet)) ≡ false = rw (cut) refl in absurd (cc (none, some))
    by_fragment packet is false cut some = rw (cut) (own bytes packet is)

    by_reading : (read : Result four.Packet4 Ip4Bad) → four.ip4_of bytes ≡ read → is_some (found read) ≡ true → found read ≡ if_packet read
    by_reading (Ok packet) is some = by_fragment packet is (four.is_fragment packet) refl some
    by_reading (Err why) is some = absurd (cc some)

pub tunnel_known : (outer : Outer) (bytes : List ℕ) → is_some (packet_in (item_inside (in_tunnel outer bytes (four.ip4_of bytes)))) ≡ true →
    packet_in (item_inside (in_tunnel outer bytes (four.ip4_of bytes))) ≡ if_packet (four.ip4_of bytes)
tunnel_known outer bytes known = by_reading (four.ip4_of bytes) refl known
  where
    found : Result four.Packet4 Ip4Bad → Option four.Packet4
    found read = packet_in (item_inside (in_tunnel outer bytes read))

    by_fragment : (packet : four.Packet4) → four.ip4_of bytes ≡ Ok packet → (cut : Bool) → four.is_fragment packet ≡ cut → is_some (found (Ok packet)) ≡ true →
        found (Ok packet) ≡ Some packet
    by_fragment packet is true cut some = let none : is_some (found (Ok packet)) ≡ false = rw (cut) refl in absurd (cc (none, some))
    by_fragment packet is false cut some = rw (cut) (own bytes packet is)

    by_reading : (read : Result four.Packet4 Ip4Bad) → four.ip4_of bytes ≡ read → is_some (found read) ≡ true → found read ≡ if_packet read
    by_reading (Ok packet) is some = by_fragment packet is (four.is_fragment packet) refl some
    by_reading (Err why) is some =
        let none : is_some (found (Err why)) ≡ false = ap (λ (r : Result four.Packet4 Ip4Bad). is_some (if_packet r)) is in absurd (cc (none, some))

-- what stands behind the last header
headers_known : (outer : Outer) (next : ℕ) (bytes : List ℕ) → is_some (packet_in (item_inside (behind_headers outer next bytes))) ≡ true →
    packet_in (item_inside (behind_headers outer next bytes)) ≡ if_packet (four.ip4_of bytes)
headers_known outer next bytes known = by_number (next == 4) (next == 58) known
  where
    found : Bool → Bool → Option four.Packet4
    found four_in_six icmp =
        packet_in (item_inside (if four_in_six then in_tunnel outer bytes (four.ip4_of bytes) else if icmp then Settled (item.Icmp6 outer.src outer.dst bytes) else Settled (item.OtherIp6 outer.dst)))

    by_number : (four_in_six icmp : Bool) → is_some (found four_in_six icmp) ≡ true → found four_in_six icmp ≡ if_packet (four.ip4_of bytes)
    by_number true icmp some = tunnel_known outer bytes some
    by_number false true some = absurd (cc some)
    by_number false false some = absurd (cc some)

-- what a Fragment header carried, whole
pub fragment_known : (outer : Outer) (next : ℕ) (body bytes : List ℕ) (end : Chain) → chain_of next body start.AfterFragment ≡ Ok end → bytes ≡ drop end.at body →
    is_some (packet_in (item_inside (behind_fragment outer next body))) ≡ true → packet_in (item_inside (behind_fragment outer next body)) ≡ if_packet (four.ip4_of bytes)
fragment_known outer next body bytes end walked is known =
    let found : Result Chain ChainBad → Option four.Packet4 = λ chain. packet_in (item_inside (by_inner_chain outer body chain)) in
    ap found walked
    ∙ headers_known outer end.next (drop end.at body) (sym (ap (λ (chain : Result Chain ChainBad). is_some (found chain)) walked) ∙ known)
    ∙ ap (λ (l : List ℕ). if_packet (four.ip4_of l)) (sym is)

-- where a packet's own chain ends behind no Fragment header
pub end_at_once : (outer : Outer) (next : ℕ) (bytes : List ℕ) → is_some (packet_in (item_alone (at_end outer next bytes None))) ≡ true →
    packet_in (item_alone (at_end outer next bytes None)) ≡ if_packet (four.ip4_of bytes)
end_at_once outer next bytes known = headers_known outer next bytes known

pub read_known : (read : Result four.Packet4 Ip4Bad) → is_some (if_packet read) ≡ true → is_ok read ≡ true
read_known (Ok packet) some = refl
read_known (Err why) some = absurd cc

-- ---- by the index
pub packet_by : (es : List Entry) (index : ℕ) (i : Item) → slice_get (items_in es) index ≡ Some i → packet_at es index ≡ packet_in i
packet_by es index i there = ap (λ (o : Option Item). option_and_then packet_in o) there

pub known_by : (es : List Entry) (index : ℕ) (i : Item) → slice_get (items_in es) index ≡ Some i → is_some (packet_at es index) ≡ true → is_some (packet_in i) ≡ true
known_by es index i there known = sym (ap (λ (o : Option four.Packet4). is_some o) (packet_by es index i there)) ∙ known
