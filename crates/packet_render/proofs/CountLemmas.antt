-- How many packets are sent for a verdict that fits.
use Rattle.std.proofs.Common.{◌≡◌, ℕ, ◌≤◌, ◌+◌, ◌-◌, nat_lt, Bool, true, false, List, [], ◌∷◌, ◌++◌, length, Option, Some, Ok, refl, sym, ◌∙◌, ap, subst, arith}
use Rattle.std.specs.Prelude.{if◌then◌else◌, Result, option_and_then}
use Rattle.std.proofs.lemmas.Bool.{ltb-false, ltb-true}
use Rattle.aftr_base.specs.declared.numbers.V6.{V6}
use Rattle.fragmenter.specs.Cutting.{Room, packets_of, pieces_of}
use Rattle.fragmenter.specs.Pieces4.{piece4, room4}
use Rattle.fragmenter.specs.Pieces6.{piece6, room6}
use Rattle.icmp_errors.specs.Errors4.{exceeded_bytes, too_big_bytes, unreachable_bytes}
use Rattle.ip_codec.proofs.Laws.{ip4_of-alone, ip4_of-shaped}
use Rattle.ip_codec.specs.Packet4.{Packet4, ip4_of, packet_len}
use Rattle.ip_codec.specs.declared.items.Item.{Item}
use Rattle.ip_codec.specs.declared.items.Item.TheVariants as item
use Rattle.ip_codec.specs.declared.rules.Rule.{Rule}
use Rattle.packet_render.specs.Counted.{Sends}
use Rattle.packet_render.specs.Sent.{along, if_ok, inward, made_of, outward, packet_of_item, policies, quote_of_item, relayed_bytes, sent}
use Rattle.icmp_codec.specs.Message6.{Message6}
use Rattle.icmp_codec.specs.declared.message4.IcmpBad.{IcmpBad}
use Rattle.icmp_relay.specs.Quotes.{TunnelQuote, quote_of}
use Rattle.softwire_encap.proofs.Laws.{like_old}
use Rattle.packet_render.specs.Pushed.{one_hop_on}
use Rattle.softwire_encap.specs.Passing.{lowered}
use Rattle.softwire_encap.specs.Tunnel.{tunnelled}
use Rattle.verdict_core.specs.Fitting.{Fits, FitsReply, HasPacket, HasRoom, IsRelayable, IsSendable, IsUp}
use Rattle.verdict_core.specs.declared.verdicts.Reply.{Reply}
use Rattle.verdict_core.specs.declared.verdicts.Reply.TheVariants as reply
use Rattle.verdict_core.specs.declared.verdicts.Verdict.{Verdict}
use Rattle.verdict_core.specs.declared.verdicts.Verdict.TheVariants as verdict
use Rattle.packet_render.proofs.SentLemmas.{inward-cut, inward-whole, outward-cut, outward-whole}

-- data that is there is carried by at least one packet
one_or_more : (made : ℕ → Bool → List ℕ → List ℕ) (before : ℕ) (test : Bool) (first only : List ℕ) (rest : List (List ℕ)) →
    1 ≤ length (packets_of made before (if test then first ∷ rest else only ∷ []))
one_or_more made before true first only rest = omega arith
one_or_more made before false first only rest = omega arith

some_pieces : (room : ℕ → Room) (made : ℕ → Bool → List ℕ → List ℕ) (before : ℕ) (left : List ℕ) → 1 ≤ length left → 1 ≤ length (pieces_of room made before left)
some_pieces room made before [] some = absurd (omega arith)
some_pieces room made before (byte ∷ bytes) some = one_or_more made before (nat_lt (room before).last (length (byte ∷ bytes))) _ _ _

-- a packet that goes out is sent, whole or in pieces: where it does not fit, it has more than a header
some_out : (mtu : ℕ) (p : Packet4) → ip4_of (p.header ++ p.payload) ≡ Ok p → 576 ≤ mtu → (long : Bool) → nat_lt mtu (packet_len p) ≡ long → 1 ≤ length (outward mtu p)
some_out mtu p alone room false fits =
    let L : List (List ℕ) → Type 0 = λ l. 1 ≤ length l in subst L (sym (outward-whole p mtu alone (ltb-false mtu (packet_len p) fits))) (omega arith)
some_out mtu p alone room true long =
    let shaped = ip4_of-shaped (p.header ++ p.payload) p alone in
    let some : 1 ≤ length p.payload = omega (arith, ltb-true mtu (packet_len p) long, shaped.most_header, room) in
    let L : List (List ℕ) → Type 0 = λ l. 1 ≤ length l in subst L (sym (outward-cut p mtu alone (ltb-true mtu (packet_len p) long))) (some_pieces (room4 (one_hop_on p) mtu) (piece4 (one_hop_on p)) 0 p.payload some)

-- one that goes into a tunnel is sent: the tunnel packet carries it
some_in : (from to : V6) (hop mtu number : ℕ) (p : Packet4) → ip4_of (p.header ++ p.payload) ≡ Ok p → (long : Bool) → nat_lt mtu (40 + packet_len p) ≡ long → 1 ≤ length (inward from to hop mtu number p)
some_in from to hop mtu number p alone false fits =
    let L : List (List ℕ) → Type 0 = λ l. 1 ≤ length l in subst L (sym (inward-whole p mtu alone from to hop number (ltb-false mtu (40 + packet_len p) fits))) (omega arith)
some_in from to hop mtu number p alone true long =
    let shaped = ip4_of-shaped (p.header ++ p.payload) p alone in
    let some : 1 ≤ length (lowered p) = omega (arith, (like_old p alone).len, shaped.least_header) in
    let L : List (List ℕ) → Type 0 = λ l. 1 ≤ length l in subst L (sym (inward-cut p mtu alone from to hop number (ltb-true mtu (40 + packet_len p) long))) (some_pieces (room6 mtu) (piece6 (tunnelled from to hop (lowered p)) number) 0 (lowered p) some)

-- the packet that the item has
pub packet_is : (i : Item) (p : Packet4) → HasPacket i p → packet_of_item i ≡ Some p
packet_is i p has = ap (λ (bytes : Option (List ℕ)). option_and_then (λ b. if_ok (ip4_of b)) bytes) has.1 ∙ ap if_ok has.2

many_made : {A : Type 0} (some : Option A) (a : A) (packets : A → List (List ℕ)) → some ≡ Some a → length (made_of some packets) ≡ length (packets a)
many_made {A = A} some a packets is = ap (λ (o : Option A). length (made_of o packets)) is

pub one_policy : (i : Item) (from to : V6) (hop : ℕ) (p : Packet4) → IsUp i → length (policies i from to hop p) ≡ 1
one_policy (item.Up outer inner) from to hop p up = refl
one_policy (item.Down packet) from to hop p up = absurd up
one_policy (item.OtherIp6 dst) from to hop p up = absurd up
one_policy (item.Icmp6 src dst message) from to hop p up = absurd up
one_policy item.Held from to hop p up = absurd up
one_policy (item.Bad why) from to hop p up = absurd up

-- the tunnel packet that the item quotes
pub quote_is : (i : Item) → IsRelayable i → (quote : TunnelQuote) × (quote_of_item i ≡ Some quote)
quote_is (item.Icmp6 src dst message) quotes = (
  quotes.quote,
  ap (λ (read : Result Message6 IcmpBad). option_and_then (λ m. if_ok (quote_of m.rest)) (if_ok read)) quotes.read
      ∙ ap if_ok quotes.quoted,
)
quote_is (item.Down packet) quotes = absurd quotes
quote_is (item.Up outer inner) quotes = absurd quotes
quote_is (item.OtherIp6 dst) quotes = absurd quotes
quote_is item.Held quotes = absurd quotes
quote_is (item.Bad why) quotes = absurd quotes

one_reply : (i : Item) (told : Reply) (why : Rule) (number : ℕ) → FitsReply i told → Sends (verdict.Drop why told) (length (sent i (verdict.Drop why told) number))
one_reply i reply.Silent why number fits = refl
one_reply i (reply.Unreachable own way) why number fits = many_made (packet_of_item i) fits.0 (λ packet. along way (unreachable_bytes own packet) ∷ []) (packet_is i fits.0 fits.1)
one_reply i (reply.TooBig own mtu way) why number fits = many_made (packet_of_item i) fits.0 (λ packet. along way (too_big_bytes own mtu packet) ∷ []) (packet_is i fits.0 fits.1)
one_reply i (reply.Exceeded own way) why number fits = many_made (packet_of_item i) fits.0 (λ packet. along way (exceeded_bytes own packet) ∷ []) (packet_is i fits.0 fits.1)
one_reply i (reply.Policy from to hop) why number fits =
    many_made (packet_of_item i) fits.1.0 (policies i from to hop) (packet_is i fits.1.0 fits.1.1) ∙ one_policy i from to hop fits.1.0 fits.0
one_reply i (reply.Relay own code mtu way) why number fits =
    let found = quote_is i fits.0 in many_made (quote_of_item i) found.0 (λ quote. along way (relayed_bytes own code mtu quote) ∷ []) found.1

-- what is made of a packet that the item has
some_made : (i : Item) (p : Packet4) → HasPacket i p → (packets : Packet4 → List (List ℕ)) → 1 ≤ length (packets p) → 1 ≤ length (made_of (packet_of_item i) packets)
some_made i p has packets some = let N : ℕ → Type 0 = λ n. 1 ≤ n in subst N (sym (many_made (packet_of_item i) p packets (packet_is i p has))) some

some_inward : (i : Item) (from to : V6) (hop mtu number room : ℕ) → IsSendable i room → 1 ≤ length (made_of (packet_of_item i) (inward from to hop mtu number))
some_inward i from to hop mtu number room can =
    some_made i can.packet can.carried (inward from to hop mtu number)
    (some_in from to hop mtu number can.packet (ip4_of-alone can.carried.0 can.packet can.carried.2) (nat_lt mtu (40 + packet_len can.packet)) refl)

-- so many packets are sent for each verdict that fits
pub sends : (i : Item) (v : Verdict) (number : ℕ) → Fits i v → HasRoom v → Sends v (length (sent i v number))
sends i verdict.Held number fits room = refl
sends i (verdict.Drop why told) number fits room = one_reply i told why number fits
sends i (verdict.Outward mtu) number fits room =
    let can = fits.1 in
    some_made i can.packet can.carried (outward mtu)
    (some_out mtu can.packet (ip4_of-alone can.carried.0 can.packet can.carried.2) room (nat_lt mtu (packet_len can.packet)) refl)
sends i (verdict.Inward from to hop mtu true) number fits room = some_inward i from to hop mtu number (mtu - 40) fits.1
sends i (verdict.Inward from to hop mtu false) number fits room = some_inward i from to hop mtu number (mtu - 40) fits.1
