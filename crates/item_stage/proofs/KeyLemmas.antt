-- Keys that are equal by their order are the same, and the fields of a key are read from bytes.
use Rattle.std.proofs.Common.{◌≡◌, ℕ, Bool, true, false, List, Option, Some, None, Result, Ok, Err, refl, subst, if◌then◌else◌}
use Rattle.std.specs.FinMap.{nat_cmp-IsAntisymmetric}
use Rattle.std.specs.Ordering.{nat_cmp, ordering_then}
use Rattle.std.specs.declared.cmp.Ordering.{Ordering}
use Rattle.std.specs.declared.cmp.Ordering.TheVariants as order
use Rattle.aftr_base.specs.declared.numbers.V4.{V4}
use Rattle.aftr_base.specs.declared.numbers.V6.{V6}
use Rattle.ip_codec.specs.Packet4 as four
use Rattle.ip_codec.specs.declared.items.Item.TheVariants as item
use Rattle.ip_codec.specs.declared.items.Outer.{Outer}
use Rattle.ip_codec.specs.declared.packet4.Ip4Bad.{Ip4Bad}
use Rattle.ipv6_chain.specs.declared.headers.Frag.{Frag}
use Rattle.item_stage.specs.Alone.{Settled, Fragment, Ready, Downstream, CutPart, Carries, at_end, behind_fragment, from_network, in_tunnel, is_cut}
use Rattle.item_stage.specs.Fragments.{by_down_key, by_inner_key, by_outer_key, down_key, inner_key, outer_key, part_of4, part_of6}
use Rattle.item_stage.specs.Sources.{IsDownKey, IsInnerKey, IsOuterKey}
use Rattle.item_stage.specs.declared.keys.DownKey.{DownKey}
use Rattle.item_stage.specs.declared.keys.InnerKey.{InnerKey}
use Rattle.item_stage.specs.declared.keys.OuterKey.{OuterKey}
use Rattle.reassembly_lane.specs.declared.parts.Part.{Part}

first_equal : (x y : Ordering) → ordering_then x y ≡ order.Equal → x ≡ order.Equal
first_equal order.Less y e = e
first_equal order.Equal y e = refl
first_equal order.Greater y e = e

then_equal : (x y : Ordering) → ordering_then x y ≡ order.Equal → y ≡ order.Equal
then_equal order.Less y e = absurd cc
then_equal order.Equal y e = e
then_equal order.Greater y e = absurd cc

same_number : (a b : ℕ) → nat_cmp a b ≡ order.Equal → a ≡ b
same_number a b e = nat_cmp-IsAntisymmetric a b e

same_end : (a b : V6) → nat_cmp a.0 b.0 ≡ order.Equal → a ≡ b
same_end a b e = let n : a.0 ≡ b.0 = same_number a.0 b.0 e in λ i. record { 0 = n i }

same_host : (a b : V4) → nat_cmp a.0 b.0 ≡ order.Equal → a ≡ b
same_host a b e = let n : a.0 ≡ b.0 = same_number a.0 b.0 e in λ i. record { 0 = n i }

pub outer_same : (a b : OuterKey) → by_outer_key a b ≡ order.Equal → a ≡ b
outer_same a b e =
    let behind = then_equal (nat_cmp a.src.0 b.src.0) _ e in
    let src = same_end a.src b.src (first_equal (nat_cmp a.src.0 b.src.0) _ e) in
    let dst = same_end a.dst b.dst (first_equal (nat_cmp a.dst.0 b.dst.0) _ behind) in
    let id = same_number a.id b.id (then_equal (nat_cmp a.dst.0 b.dst.0) _ behind) in
    λ i. record { src = src i; dst = dst i; id = id i }

pub down_same : (a b : DownKey) → by_down_key a b ≡ order.Equal → a ≡ b
down_same a b e =
    let second = then_equal (nat_cmp a.src.0 b.src.0) _ e in
    let third = then_equal (nat_cmp a.dst.0 b.dst.0) _ second in
    let src = same_host a.src b.src (first_equal (nat_cmp a.src.0 b.src.0) _ e) in
    let dst = same_host a.dst b.dst (first_equal (nat_cmp a.dst.0 b.dst.0) _ second) in
    let protocol = same_number a.protocol b.protocol (first_equal (nat_cmp a.protocol b.protocol) _ third) in
    let id = same_number a.id b.id (then_equal (nat_cmp a.protocol b.protocol) _ third) in
    λ i. record { src = src i; dst = dst i; protocol = protocol i; id = id i }

pub inner_same : (a b : InnerKey) → by_inner_key a b ≡ order.Equal → a ≡ b
inner_same a b e =
    let second = then_equal (nat_cmp a.tunnel_src.0 b.tunnel_src.0) _ e in
    let third = then_equal (nat_cmp a.tunnel_dst.0 b.tunnel_dst.0) _ second in
    let fourth = then_equal (nat_cmp a.src.0 b.src.0) _ third in
    let fifth = then_equal (nat_cmp a.dst.0 b.dst.0) _ fourth in
    let tunnel_src = same_end a.tunnel_src b.tunnel_src (first_equal (nat_cmp a.tunnel_src.0 b.tunnel_src.0) _ e) in
    let tunnel_dst = same_end a.tunnel_dst b.tunnel_dst (first_equal (nat_cmp a.tunnel_dst.0 b.tunnel_dst.0) _ second) in
    let src = same_host a.src b.src (first_equal (nat_cmp a.src.0 b.src.0) _ third) in
    let dst = same_host a.dst b.dst (first_equal (nat_cmp a.dst.0 b.dst.0) _ fourth) in
    let protocol = same_number a.protocol b.protocol (first_equal (nat_cmp a.protocol b.protocol) _ fifth) in
    let id = same_number a.id b.id (then_equal (nat_cmp a.protocol b.protocol) _ fifth) in
    λ i. record { tunnel_src = tunnel_src i; tunnel_dst = tunnel_dst i; src = src i; dst = dst i; protocol = protocol i; id = id i }

-- ---- from bytes
pub down_read : (bytes : List ℕ) (r : Result four.Packet4 Ip4Bad) → four.ip4_of bytes ≡ r → (key : DownKey) (piece : Part) → from_network r ≡ Downstream key piece →
    (packet : four.Packet4) × ((four.ip4_of bytes ≡ Ok packet) × IsDownKey key packet)
down_read bytes (Err why) read key piece is = absurd cc
down_read bytes (Ok packet) read key piece is = by_fragment (four.is_fragment packet) is
  where
    by_fragment : (b : Bool) → (if b then Downstream (down_key packet) (part_of4 packet) else Ready (item.Down (four.whole4 packet))) ≡ Downstream key piece →
        (packet : four.Packet4) × ((four.ip4_of bytes ≡ Ok packet) × IsDownKey key packet)
    by_fragment true e =
        let same : down_key packet ≡ key = cc in
        (packet, (read, subst (λ (k : DownKey). IsDownKey k packet) same (record { source = refl; destination = refl; protocol = refl; identification = refl })))
    by_fragment false e = absurd cc

pub inner_read : (outer o : Outer) (bytes : List ℕ) (r : Result four.Packet4 Ip4Bad) → four.ip4_of bytes ≡ r → (key : InnerKey) (piece : Part) →
    in_tunnel outer bytes r ≡ Fragment o key piece → (packet : four.Packet4) × ((four.ip4_of bytes ≡ Ok packet) × IsInnerKey key outer packet)
inner_read outer o bytes (Err why) read key piece is = absurd cc
inner_read outer o bytes (Ok packet) read key piece is = by_fragment (four.is_fragment packet) is
  where
    by_fragment : (b : Bool) → (if b then Fragment outer (inner_key outer packet) (part_of4 packet) else Settled (item.Up outer (four.whole4 packet))) ≡ Fragment o key piece →
        (packet : four.Packet4) × ((four.ip4_of bytes ≡ Ok packet) × IsInnerKey key outer packet)
    by_fragment true e =
        let same : inner_key outer packet ≡ key = cc in (
          packet,
          (
            read,
            subst (λ (k : InnerKey). IsInnerKey k outer packet) same
                (record { from = refl; to = refl; source = refl; destination = refl; protocol = refl; identification = refl }),
          ),
        )
    by_fragment false e = absurd cc

pub outer_read : (outer o : Outer) (next : ℕ) (bytes : List ℕ) (header : Option Frag) (key : OuterKey) (piece : Part) →
    at_end outer next bytes header ≡ CutPart o key piece → (fragment : Frag) × ((header ≡ Some fragment) × IsOuterKey key outer fragment)
outer_read outer o next bytes None key piece is = absurd cc
outer_read outer o next bytes (Some fragment) key piece is = by_cut (is_cut fragment) is
  where
    by_cut : (b : Bool) →
        (if b then CutPart outer (outer_key outer fragment.id) (part_of6 fragment.offset fragment.more next bytes) else Carries (behind_fragment outer next bytes))
        ≡ CutPart o key piece → (f : Frag) × ((◌≡◌ {A = Option Frag} (Some fragment) (Some f)) × IsOuterKey key outer f)
    by_cut true e =
        let same : outer_key outer fragment.id ≡ key = cc in
        (fragment, (refl, subst (λ (k : OuterKey). IsOuterKey k outer fragment) same (record { from = refl; to = refl; identification = refl })))
    by_cut false e = absurd cc
