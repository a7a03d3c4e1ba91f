-- Who receives: what goes into a tunnel goes to the owner of its destination, since of all lines only those that let a packet
-- pass lead into one.
use Rattle.std.proofs.Common.{◌≡◌, ℕ, Bool, true, false, List, ◌++◌, Option, Some, None, Result, Ok, Err, refl}
use Rattle.aftr_base.specs.declared.numbers.V6.{V6}
use Rattle.binding_rules.specs.Tables.{BindingTable, IsLawful}
use Rattle.ip_codec.specs.Packet4.{Packet4, ip4_of}
use Rattle.ip_codec.specs.declared.items.Item.{Item}
use Rattle.ip_codec.specs.declared.items.Item.TheVariants as item
use Rattle.ip_codec.specs.declared.items.Outer.{Outer}
use Rattle.ip_codec.specs.declared.packet4.Ip4Bad.{Ip4Bad}
use Rattle.port_locate.specs.Keys.{downstream_key}
use Rattle.verdict_core.specs.Access.{Delivers, GoesTo}
use Rattle.verdict_core.specs.Fitting.{HasPacket}
use Rattle.verdict_core.specs.Lines.{verdict_in}
use Rattle.verdict_core.specs.Verdicts.{access_lines, down_lines, down_refusals, down_ways, hairpin_lines, is_bound_address, outward_lines, owner_end, onward_refusals, up_lines}
use Rattle.verdict_core.specs.declared.verdicts.Verdict.{Verdict}
use Rattle.verdict_core.specs.declared.verdicts.Verdict.TheVariants as verdict
use Rattle.verdict_core.proofs.Firsts.{by_ways}
use Rattle.verdict_core.proofs.Owned.{owner_known}

goes_to : (t : BindingTable) (i : Item) (p : Packet4) (to : V6) → IsLawful t → HasPacket i p → owner_end t p.dst (downstream_key p) ≡ Some to → GoesTo t i to
goes_to t i p to lawful has is =
    let owned = owner_known t p.dst (downstream_key p) to lawful is in
    record { packet = p; carried = has; want = owned.want; key = owned.key; receiver = owned.owner }

abbrev pub is_drop : Verdict → Bool
is_drop (verdict.Drop why told) = true
is_drop (verdict.Outward mtu) = false
is_drop (verdict.Inward from to hop mtu back) = false
is_drop verdict.Held = false

of_drop : (t : BindingTable) (i : Item) (v : Verdict) → is_drop v ≡ true → Delivers t i v
of_drop t i (verdict.Drop why told) is = tt
of_drop t i (verdict.Outward mtu) is = tt
of_drop t i (verdict.Inward from to hop mtu back) is = absurd cc
of_drop t i verdict.Held is = tt

module _ (t : BindingTable) (lawful : IsLawful t) (v : Verdict) where
  down_read : (bytes : List ℕ) (p : Packet4) → ip4_of bytes ≡ Ok p → verdict_in (down_lines t (Ok p)) ≡ Some v → Delivers t (item.Down bytes) v
  down_read bytes p read first = by_end (owner_end t p.dst (downstream_key p)) refl first
    where
      by_end : (end : Option V6) → owner_end t p.dst (downstream_key p) ≡ end →
          verdict_in (down_refusals t.softwire p (downstream_key p) ++ down_ways t.softwire p end) ≡ Some v → Delivers t (item.Down bytes) v
      by_end None is = by_ways (λ w. Delivers t (item.Down bytes) w) is_drop (of_drop t (item.Down bytes))
          (down_refusals t.softwire p (downstream_key p) ++ down_ways t.softwire p None) v refl tt
      by_end (Some to) is = by_ways (λ w. Delivers t (item.Down bytes) w) is_drop (of_drop t (item.Down bytes))
          (down_refusals t.softwire p (downstream_key p) ++ down_ways t.softwire p (Some to)) v refl
          (λ _. goes_to t (item.Down bytes) p to lawful (bytes, refl, read) is, tt)

  pub down_delivers : (bytes : List ℕ) (r : Result Packet4 Ip4Bad) → ip4_of bytes ≡ r → verdict_in (down_lines t r) ≡ Some v → Delivers t (item.Down bytes) v
  down_delivers bytes (Ok p) read first = down_read bytes p read first
  down_delivers bytes (Err refusal) read first =
      by_ways (λ w. Delivers t (item.Down bytes) w) is_drop (of_drop t (item.Down bytes)) (down_lines t (Err refusal)) v refl tt first

  up_read : (outer : Outer) (inner : List ℕ) (p : Packet4) → ip4_of inner ≡ Ok p → verdict_in (up_lines t outer (Ok p)) ≡ Some v →
      Delivers t (item.Up outer inner) v
  up_read outer inner p read first = by_end (owner_end t p.dst (downstream_key p)) refl first
    where
      by_end : (end : Option V6) → owner_end t p.dst (downstream_key p) ≡ end →
          verdict_in (access_lines t outer p
          ++ (onward_refusals t.softwire outer p ++ (hairpin_lines t.softwire outer p (is_bound_address t p.dst) end ++ outward_lines t.softwire outer p))) ≡ Some v →
          Delivers t (item.Up outer inner) v
      by_end None is = by_ways (λ w. Delivers t (item.Up outer inner) w) is_drop (of_drop t (item.Up outer inner))
          (access_lines t outer p
          ++ (onward_refusals t.softwire outer p ++ (hairpin_lines t.softwire outer p (is_bound_address t p.dst) None ++ outward_lines t.softwire outer p))) v refl
          (λ _. tt, tt)
      by_end (Some to) is = by_ways (λ w. Delivers t (item.Up outer inner) w) is_drop (of_drop t (item.Up outer inner))
          (access_lines t outer p
          ++ (onward_refusals t.softwire outer p ++ (hairpin_lines t.softwire outer p (is_bound_address t p.dst) (Some to) ++ outward_lines t.softwire outer p))) v refl
          (λ _. goes_to t (item.Up outer inner) p to lawful (inner, refl, read) is, (λ _. tt, tt))

  pub up_delivers : (outer : Outer) (inner : List ℕ) (r : Result Packet4 Ip4Bad) → ip4_of inner ≡ r → verdict_in (up_lines t outer r) ≡ Some v →
      Delivers t (item.Up outer inner) v
  up_delivers outer inner (Ok p) read first = up_read outer inner p read first
  up_delivers outer inner (Err refusal) read first =
      by_ways (λ w. Delivers t (item.Up outer inner) w) is_drop (of_drop t (item.Up outer inner)) (up_lines t outer (Err refusal)) v refl tt first
