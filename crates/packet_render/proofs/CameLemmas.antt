-- What is sent is what came.
use Rattle.std.proofs.Common.{◌≡◌, ℕ, ◌≤◌, ◌+◌, ◌-◌, ◌%◌, ◌<◌, true, false, List, ◌++◌, length, Option, Some, None, Ok, refl, sym, ◌∙◌, ap, subst, arith}
use Rattle.aftr_base.specs.declared.numbers.V6.{V6}
use Rattle.ip_codec.proofs.Laws.{ip4_of-alone, ip4_of-shaped}
use Rattle.ip_codec.specs.Packet4.{Packet4, ip4_of, packet_len}
use Rattle.ip_codec.specs.declared.items.Item.{Item}
use Rattle.ip_codec.specs.declared.items.Item.TheVariants as item
use Rattle.softwire_encap.proofs.Laws.{ip4_of-lowered, like_old}
use Rattle.softwire_encap.proofs.PlaceLemmas.{tunnel_stands}
use Rattle.softwire_encap.specs.Passing.{lowered, passed}
use Rattle.softwire_encap.specs.Tunnel.{tos_of, tunnel_head, wrapped}
use Rattle.packet_render.specs.Sent.{inward, made_of, outward, packet_of_item, sent}
use Rattle.packet_render.specs.WhatCame.{AreBytes, CarriesBytes, GoesIn, GoesOut, IsOfBytes, IsOneHopOn, IsSentInPieces, IsSentWhole, IsTunnelledInPieces, IsTunnelledWhole, SendsWhatCame, SpellsNext, Tunnels}
use Rattle.verdict_core.specs.Fitting.{Fits, HasPacket, HasRoom, IsSendable}
use Rattle.verdict_core.specs.declared.verdicts.Verdict.{Verdict}
use Rattle.verdict_core.specs.declared.verdicts.Verdict.TheVariants as verdict
use Rattle.packet_render.proofs.ByteLemmas.{of_bytes}
use Rattle.packet_render.proofs.CountLemmas.{packet_is}
use Rattle.packet_render.proofs.PieceLemmas.{cut_pieces, tunnel_pieces}
use Rattle.packet_render.proofs.SentLemmas.{inward-whole, outward-whole, passed-len, wrapped-len}

module _ (p : Packet4) (is : ip4_of (p.header ++ p.payload) ≡ Ok p) (alive : 2 ≤ p.ttl) where
  passed_on : IsOneHopOn p (passed p)
  passed_on = record {
    ttl = omega (arith, alive);
    tos = refl;
    id = refl;
    reserved = refl;
    df = refl;
    mf = refl;
    offset = refl;
    protocol = refl;
    src = refl;
    dst = refl;
    options = (like_old p is).options;
    payload = refl;
  }

  spells_next : SpellsNext p (lowered p)
  spells_next = record { next = passed p; read = ip4_of-lowered p is; same = passed_on }

  sent_whole : (mtu : ℕ) → packet_len p ≤ mtu → IsSentWhole p (outward mtu p)
  sent_whole mtu fits = record { bytes = lowered p; only = outward-whole p mtu is fits; spells = spells_next }

  -- the shape of the packet that is passed on
  header_60 : length (passed p).header ≤ 60
  header_60 = omega (arith, (like_old p is).header_len, (ip4_of-shaped (p.header ++ p.payload) p is).most_header)

  header_words : length (passed p).header % 4 ≡ 0
  header_words = ap (λ (n : ℕ). n % 4) (like_old p is).header_len ∙ (ip4_of-shaped (p.header ++ p.payload) p is).whole_words

  sent_in_pieces : (mtu : ℕ) → 576 ≤ mtu → IsOfBytes p → mtu < packet_len p → IsSentInPieces p mtu (outward mtu p)
  sent_in_pieces mtu least of_bytes long = record {
    next = passed p;
    same = passed_on;
    pieces =
        cut_pieces (passed p) mtu least header_60 header_words of_bytes.src of_bytes.dst (outward mtu p)
        (omega (arith, of_bytes.most, passed-len p mtu is)) (omega (arith, long, passed-len p mtu is)) refl;
  }

  module _ (from to : V6) (limit : ℕ) where
    abbrev tunnels : Tunnels from to limit p (wrapped from to limit (lowered p))
    tunnels = record { inner = lowered p; tunnel = tunnel_stands from to limit (lowered p); spells = spells_next }

    tunnelled_whole : (mtu number : ℕ) → 40 + packet_len p ≤ mtu → IsTunnelledWhole from to limit p (inward from to limit mtu number p)
    tunnelled_whole mtu number fits =
        record { bytes = wrapped from to limit (lowered p); only = inward-whole p mtu is from to limit number fits; tunnels = tunnels }

    tunnelled_in_pieces : (mtu number : ℕ) → 1280 ≤ mtu → mtu < 40 + packet_len p → IsTunnelledInPieces from to limit p mtu number (inward from to limit mtu number p)
    tunnelled_in_pieces mtu number least long = record {
      bytes = wrapped from to limit (lowered p);
      tunnels = tunnels;
      pieces =
          tunnel_pieces (tunnel_head from to limit (tos_of (lowered p))) (lowered p) mtu number least (inward from to limit mtu number p)
          (omega (arith, long, wrapped-len p mtu is from to limit number)) refl;
    }

-- what is made of the packet that the item has
pub made_is : (i : Item) (p : Packet4) → HasPacket i p → (packets : Packet4 → List (List ℕ)) → made_of (packet_of_item i) packets ≡ packets p
made_is i p has packets = ap (λ (o : Option Packet4). made_of o packets) (packet_is i p has)

-- an item's packet is read from bytes
some_bytes : (bytes found : List ℕ) → ◌≡◌ {A = Option (List ℕ)} (Some bytes) (Some found) → bytes ≡ found
some_bytes bytes found is = cc

no_bytes : (found : List ℕ) → ◌≡◌ {A = Option (List ℕ)} None (Some found) → ⊥
no_bytes found is = cc

pub item_bytes : (i : Item) (p : Packet4) → CarriesBytes i → HasPacket i p → IsOfBytes p
item_bytes (item.Down packet) p are has =
    let same : packet ≡ has.0 = some_bytes packet has.0 has.1 in
    of_bytes has.0 p (subst AreBytes same are) has.2
item_bytes (item.Up outer inner) p are has =
    let same : inner ≡ has.0 = some_bytes inner has.0 has.1 in
    of_bytes has.0 p (subst AreBytes same are) has.2
item_bytes (item.OtherIp6 dst) p are has = absurd (no_bytes has.0 has.1)
item_bytes (item.Icmp6 src dst message) p are has = absurd (no_bytes has.0 has.1)
item_bytes item.Held p are has = absurd (no_bytes has.0 has.1)
item_bytes (item.Bad why) p are has = absurd (no_bytes has.0 has.1)

goes_out : (i : Item) (mtu : ℕ) → 576 ≤ mtu → IsSendable i mtu → GoesOut i mtu (made_of (packet_of_item i) (outward mtu))
goes_out i mtu least can =
    let p = can.packet in
    let alone = ip4_of-alone can.carried.0 p can.carried.2 in
    record {
      packet = p;
      carried = can.carried;
      whole = λ fits. subst (IsSentWhole p) (sym (made_is i p can.carried (outward mtu))) (sent_whole p alone can.alive mtu fits);
      cut = λ are long.
          subst (IsSentInPieces p mtu) (sym (made_is i p can.carried (outward mtu)))
          (sent_in_pieces p alone can.alive mtu least (item_bytes i p are can.carried) long);
    }

goes_in : (i : Item) (from to : V6) (limit mtu number room : ℕ) → 1280 ≤ mtu → IsSendable i room →
    GoesIn i from to limit mtu number (made_of (packet_of_item i) (inward from to limit mtu number))
goes_in i from to limit mtu number room least can =
    let p = can.packet in
    let alone = ip4_of-alone can.carried.0 p can.carried.2 in
    record {
      packet = p;
      carried = can.carried;
      whole = λ fits.
          subst (IsTunnelledWhole from to limit p) (sym (made_is i p can.carried (inward from to limit mtu number)))
          (tunnelled_whole p alone can.alive from to limit mtu number fits);
      cut = λ long.
          subst (IsTunnelledInPieces from to limit p mtu number) (sym (made_is i p can.carried (inward from to limit mtu number)))
          (tunnelled_in_pieces p alone can.alive from to limit mtu number least long);
    }

pub sends_what_came : (i : Item) (v : Verdict) (number : ℕ) → Fits i v → HasRoom v → SendsWhatCame i v number (sent i v number)
sends_what_came i verdict.Held number fits room = refl
sends_what_came i (verdict.Drop why told) number fits room = tt
sends_what_came i (verdict.Outward mtu) number fits room = goes_out i mtu room fits.1
sends_what_came i (verdict.Inward from to limit mtu true) number fits room = goes_in i from to limit mtu number (mtu - 40) room fits.1
sends_what_came i (verdict.Inward from to limit mtu false) number fits room = goes_in i from to limit mtu number (mtu - 40) room fits.1
