-- What is written into a tunnel is for its owner.
use Rattle.std.proofs.Common.{◌≡◌, ℕ, ◌+◌, ◌==◌, inl, inr, List, Option, Some, sym, ◌∙◌, ap, subst}
use Rattle.std.specs.Prelude.{if◌then◌else◌, not, ◌||◌}
use Rattle.std.specs.Int.{w128, to_be_bytes}
use Rattle.std.proofs.lemmas.Bool.{cases_lt}
use Rattle.aftr_base.specs.declared.numbers.V6.{V6}
use Rattle.binding_rules.proofs.Having.{owners_are_listed}
use Rattle.binding_rules.specs.Owning.{IsBindingOf}
use Rattle.binding_rules.specs.Tables.{BindingTable, IsLawful}
use Rattle.icmp_codec.specs.Message4.{icmp4_of}
use Rattle.ip_codec.specs.Packet4.{Packet4, ip4_of, packet_len}
use Rattle.ip_codec.specs.declared.items.Item.{Item}
use Rattle.port_locate.specs.Keys.{destination_at, downstream_key, icmp_key, key_of, plain_want, source_at}
use Rattle.port_locate.specs.declared.keys.Key.TheVariants as key
use Rattle.packet_render.specs.Sent.{sent}
use Rattle.packet_render.specs.Tunnels.{IsCutForOwner, IsForOwner, IsOneForOwner, TunnelsAreOwners}
use Rattle.packet_render.specs.WhatCame.{ArePieces6, IsOneHopOn, IsTunnelledInPieces, IsTunnelledWhole, SendsWhatCame, Tunnels}
use Rattle.verdict_core.proofs.Items.{fine, some_verdict}
use Rattle.verdict_core.proofs.Permits.{one_packet}
use Rattle.verdict_core.specs.Access.{Delivers, GoesTo}
use Rattle.verdict_core.specs.Fitting.{HasPacket, ipv4_bytes}
use Rattle.verdict_core.specs.Verdicts.{verdict_of}
use Rattle.verdict_core.specs.declared.verdicts.Verdict.{Verdict}
use Rattle.verdict_core.specs.declared.verdicts.Verdict.TheVariants as verdict
use Rattle.packet_render.proofs.CameLemmas.{sends_what_came}

-- one hop on a packet asks for the same
same_key : (p q : Packet4) → IsOneHopOn p q → downstream_key q ≡ downstream_key p
same_key p q same = λ j.
    if same.mf j || not (same.offset j == 0) then key.NoPort
    else if same.protocol j == 1 then icmp_key (icmp4_of (same.payload j)) source_at
    else key_of (plain_want (same.protocol j) (same.payload j) destination_at)

-- an item has one packet
same_packet : (i : Item) (p q : Packet4) → HasPacket i p → HasPacket i q → q ≡ p
same_packet i p q first second =
    let bytes : first.0 ≡ second.0 = one_bytes (ipv4_bytes i) first.0 second.0 first.1 second.1 in
    one_packet first.0 p q first.2 (ap ip4_of bytes ∙ second.2)
  where
    one_bytes : (o : Option (List ℕ)) (a b : List ℕ) → o ≡ Some a → o ≡ Some b → a ≡ b
    one_bytes o a b e f = let both : ◌≡◌ {A = Option (List ℕ)} (Some a) (Some b) = sym e ∙ f in cc

module _ (t : BindingTable) (i : Item) (from to : V6) (limit : ℕ) (p : Packet4) (has : HasPacket i p) (goes : GoesTo t i to) where
  abbrev for_owner : (bytes : List ℕ) → Tunnels from to limit p bytes → IsForOwner t bytes
  for_owner bytes tunnels =
      let same = same_packet i p goes.packet has goes.carried in
      let next = tunnels.spells.next in
      let is = tunnels.spells.same in
      let dst : next.dst ≡ goes.packet.dst = is.dst ∙ sym (ap (λ (q : Packet4). q.dst) same) in
      let asked : downstream_key next ≡ key.At goes.want = same_key p next is ∙ (sym (ap (λ (q : Packet4). downstream_key q) same) ∙ goes.key) in
      record {
        next_header = tunnels.tunnel.next_header;
        inner = next;
        carried = ap ip4_of tunnels.tunnel.behind ∙ tunnels.spells.read;
        want = goes.want;
        asked = asked;
        binding = goes.receiver.binding;
        whose =
            subst (λ (a : ℕ). IsBindingOf t.bindings (record { 0 = a }) goes.want goes.receiver.binding) (sym dst)
            (owners_are_listed t.bindings (record { 0 = goes.packet.dst }) goes.want goes.receiver.binding goes.receiver.owner);
        end = tunnels.tunnel.destination ∙ ap (λ (a : ℕ). to_be_bytes w128 a) (sym goes.receiver.ends);
      }

  whole_for : (list : List (List ℕ)) → IsTunnelledWhole from to limit p list → IsOneForOwner t list
  whole_for list whole = record { bytes = whole.bytes; only = whole.only; owner = for_owner whole.bytes whole.tunnels }

  cut_for : (mtu number : ℕ) (list : List (List ℕ)) → IsTunnelledInPieces from to limit p mtu number list → IsCutForOwner t mtu number list
  cut_for mtu number list cut = record {
    bytes = cut.bytes;
    owner = for_owner cut.bytes cut.tunnels;
    pieces = subst (λ (l : List ℕ). ArePieces6 cut.bytes mtu number 0 l list) (sym cut.tunnels.tunnel.behind) cut.pieces;
  }

by_verdict : (t : BindingTable) (i : Item) (v : Verdict) (number : ℕ) (list : List (List ℕ)) → Delivers t i v → SendsWhatCame i v number list →
    TunnelsAreOwners t v number list
by_verdict t i (verdict.Inward from to limit mtu back) number list delivers came =
    elim (cases_lt mtu (40 + packet_len came.packet)) [
      | inl long ↦ inr (cut_for t i from to limit came.packet came.carried delivers mtu number list (came.cut long))
      | inr fits ↦ inl (whole_for t i from to limit came.packet came.carried delivers list (came.whole fits))
    ]
by_verdict t i (verdict.Outward mtu) number list delivers came = tt
by_verdict t i (verdict.Drop why told) number list delivers came = tt
by_verdict t i verdict.Held number list delivers came = tt

pub tunnels_are_owners : (t : BindingTable) (i : Item) (number : ℕ) → IsLawful t → TunnelsAreOwners t (verdict_of t i) number (sent i (verdict_of t i) number)
tunnels_are_owners t i number lawful =
    let is = fine t i (verdict_of t i) lawful (some_verdict t i) in
    by_verdict t i (verdict_of t i) number (sent i (verdict_of t i) number) is.delivers (sends_what_came i (verdict_of t i) number is.fits is.room)
