-- The packet of an item that goes on.
use Rattle.std.proofs.Common.{◌≡◌, ℕ, ◌<◌, ◌≤◌, ◌-◌, List, length, Option, Some, None, Result, Ok, Err, true, false, is_some, slice_get, refl, sym, ◌∙◌, ap, arith}
use Rattle.std.specs.Prelude.{option_and_then}
use Rattle.ip_codec.specs.Packet4.{Packet4, ip4_of}
use Rattle.ip_codec.specs.declared.items.Item.{Item}
use Rattle.ip_codec.specs.declared.items.Item.TheVariants as item
use Rattle.ip_codec.specs.declared.packet4.Ip4Bad.{Ip4Bad}
use Rattle.item_stage.specs.Items.{items_in}
use Rattle.item_stage.specs.Packets.{if_packet, packet_at, packet_in}
use Rattle.packet_render.specs.Sent.{if_ok, is_forwarded, packet_of_item}
use Rattle.item_stage.specs.declared.entries.Entry.{Entry}
use Rattle.run_output.specs.Cells.{FitsAt}
use Rattle.run_output.proofs.CellLemmas.{entry_there, item_there}
use Rattle.verdict_core.specs.Fitting.{Fits, IsSendable, ipv4_bytes}
use Rattle.verdict_core.specs.declared.verdicts.Verdict.{Verdict}
use Rattle.verdict_core.specs.declared.verdicts.Verdict.TheVariants as verdict

-- an item that goes on has a packet that can be read, and its time to live is not used up
record GoesOn (i : Item) : Type 0 where
  pub packet : Packet4
  pub is : packet_in i ≡ Some packet
  pub alive : 2 ≤ packet.ttl

-- the item's IPv4 packet is the one that can be sent
sendable_is : (bytes : List ℕ) (i : Item) (room : ℕ) (s : IsSendable i room) → ipv4_bytes i ≡ Some bytes → if_packet (ip4_of bytes) ≡ Some s.packet
sendable_is bytes i room s carried =
    let both : Some bytes ≡ Some s.carried.0 = sym carried ∙ s.carried.1 in
    let same : bytes ≡ s.carried.0 = cc in
    ap if_packet (ap ip4_of same ∙ s.carried.2)

sendable_goes : (i : Item) (room : ℕ) → IsSendable i room → GoesOn i
sendable_goes (item.Down packet) room s = record { packet = s.packet; is = sendable_is packet (item.Down packet) room s refl; alive = s.alive }
sendable_goes (item.Up outer inner) room s = record { packet = s.packet; is = sendable_is inner (item.Up outer inner) room s refl; alive = s.alive }
sendable_goes (item.OtherIp6 dst) room s = absurd (let none : None ≡ Some s.carried.0 = s.carried.1 in cc)
sendable_goes (item.Icmp6 src dst message) room s = absurd (let none : None ≡ Some s.carried.0 = s.carried.1 in cc)
sendable_goes item.Held room s = absurd (let none : None ≡ Some s.carried.0 = s.carried.1 in cc)
sendable_goes (item.Bad why) room s = absurd (let none : None ≡ Some s.carried.0 = s.carried.1 in cc)

goes_on : (i : Item) (v : Verdict) → is_forwarded v ≡ true → Fits i v → GoesOn i
goes_on i (verdict.Outward mtu) on fits = sendable_goes i mtu fits.1
goes_on i (verdict.Inward from to hop mtu true) on fits = sendable_goes i (mtu - 40) fits.1
goes_on i (verdict.Inward from to hop mtu false) on fits = sendable_goes i (mtu - 40) fits.1
goes_on i (verdict.Drop why told) on fits = absurd cc
goes_on i verdict.Held on fits = absurd cc

same_reading : (read : Result Packet4 Ip4Bad) → if_packet read ≡ if_ok read
same_reading (Ok packet) = refl
same_reading (Err refusal) = refl

-- the packet of an item is the one that is sent
same_packet : (i : Item) → packet_in i ≡ packet_of_item i
same_packet (item.Down packet) = same_reading (ip4_of packet)
same_packet (item.Up outer inner) = same_reading (ip4_of inner)
same_packet (item.OtherIp6 dst) = refl
same_packet (item.Icmp6 src dst message) = refl
same_packet item.Held = refl
same_packet (item.Bad why) = refl

module _ (es : List Entry) (index : ℕ) where
  pub packet_is : (p : Packet4) (i : Item) → packet_at es index ≡ Some p → slice_get (items_in es) index ≡ Some i → packet_of_item i ≡ Some p
  packet_is p i at there = sym (same_packet i) ∙ (sym (ap (λ (o : Option Item). option_and_then packet_in o) there) ∙ at)

  module _ (v : Verdict) (on : is_forwarded v ≡ true) (inside : index < length es) (fits : FitsAt es index v) where
    here : GoesOn (entry_there es index inside).0.item
    here =
        let e = entry_there es index inside in
        goes_on e.0.item v on (fits e.0.item (item_there es index e.0 e.1))

    there_is : packet_at es index ≡ Some here.packet
    there_is =
        let e = entry_there es index inside in
        ap (λ (o : Option Item). option_and_then packet_in o) (item_there es index e.0 e.1) ∙ here.is

    pub has_packet : is_some (packet_at es index) ≡ true
    has_packet = ap (λ (o : Option Packet4). is_some o) there_is

    pub packet_alive : (p : Packet4) → packet_at es index ≡ Some p → 1 ≤ p.ttl
    packet_alive p at =
        let both : Some p ≡ Some here.packet = sym at ∙ there_is in
        let same : p ≡ here.packet = cc in
        omega (arith, here.alive, ap (λ (q : Packet4). q.ttl) same)
