-- What decides about an IPv4 packet fits it, and names enough room.
use Rattle.std.proofs.Common.{◌≡◌, ℕ, ◌≤◌, ◌-◌, nat_lt, ◌&&◌, ◌||◌, inl, inr, if◌then◌else◌, Bool, not, true, false, List, ◌++◌, Option, Some, None, Ok, refl}
use Rattle.std.proofs.lemmas.Bool.{ltb-false}
use Rattle.aftr_base.specs.declared.numbers.V6.{V6}
use Rattle.binding_rules.specs.Tables.{BindingTable, IsLawful}
use Rattle.ip_codec.specs.Packet4.{Packet4, ip4_of, is_fragment, packet_len}
use Rattle.ip_codec.specs.declared.items.Item.{Item}
use Rattle.ip_codec.specs.declared.items.Item.TheVariants as item
use Rattle.ip_codec.specs.declared.items.Outer.{Outer}
use Rattle.port_locate.specs.Keys.{destination_at, downstream_key, source_at}
use Rattle.verdict_core.specs.Answers.{inward_room, is_too_large, is_expired}
use Rattle.verdict_core.specs.Fitting.{Fits, HasPacket, HasRoom, IsSendable, IsUp}
use Rattle.verdict_core.specs.Lines.{verdict_in}
use Rattle.verdict_core.specs.Verdicts.{access_lines, down_lines, down_refusals, down_ways, hairpin_lines, is_bound_address, onward_lines, outward_lines, owner_end, onward_refusals, up_lines}
use Rattle.verdict_core.specs.declared.verdicts.Reply.{Reply}
use Rattle.verdict_core.specs.declared.verdicts.Reply.TheVariants as reply
use Rattle.verdict_core.specs.declared.verdicts.Verdict.{Verdict}
use Rattle.verdict_core.specs.declared.verdicts.Verdict.TheVariants as verdict
use Rattle.verdict_core.proofs.Firsts.{Parts, by_ways, not_behind, or_true, parted}
use Rattle.verdict_core.proofs.Owned.{owner_known, whole_packet}
use Rattle.verdict_core.proofs.Permits.{sender_owner}

pub record IsGood (i : Item) (v : Verdict) : Type 0 where
  pub fits : Fits i v
  pub room : HasRoom v

-- what the sender of a packet that was read can be told: of its source only where it came through a tunnel
abbrev can_tell : Bool → Reply → Bool
can_tell up reply.Silent = true
can_tell up (reply.Unreachable own way) = true
can_tell up (reply.TooBig own mtu way) = true
can_tell up (reply.Exceeded own way) = true
can_tell up (reply.Policy from to hop) = up
can_tell up (reply.Relay own code mtu way) = false

tells_or_not : (up if_so : Bool) (told : Reply) → can_tell up (if if_so then told else reply.Silent) ≡ (not if_so || can_tell up told)
tells_or_not up true told = refl
tells_or_not up false told = refl

abbrev can_drop : Bool → Verdict → Bool
can_drop up (verdict.Drop why told) = can_tell up told
can_drop up (verdict.Outward mtu) = false
can_drop up (verdict.Inward from to hop mtu back) = false
can_drop up verdict.Held = false

drop_good : (i : Item) (p : Packet4) → HasPacket i p → (up : Bool) → (up ≡ true → IsUp i) → (v : Verdict) → can_drop up v ≡ true → IsGood i v
drop_good i p has up is_up (verdict.Drop why reply.Silent) is = record { fits = tt; room = tt }
drop_good i p has up is_up (verdict.Drop why (reply.Unreachable own way)) is = record { fits = (p, has); room = tt }
drop_good i p has up is_up (verdict.Drop why (reply.TooBig own mtu way)) is = record { fits = (p, has); room = tt }
drop_good i p has up is_up (verdict.Drop why (reply.Exceeded own way)) is = record { fits = (p, has); room = tt }
drop_good i p has up is_up (verdict.Drop why (reply.Policy from to hop)) is = record { fits = (is_up is, (p, has)); room = tt }
drop_good i p has up is_up (verdict.Drop why (reply.Relay own code mtu way)) is = absurd cc
drop_good i p has up is_up (verdict.Outward mtu) is = absurd cc
drop_good i p has up is_up (verdict.Inward from to hop mtu back) is = absurd cc
drop_good i p has up is_up verdict.Held is = absurd cc

-- a packet that may be cut, or fits
pub small : (p : Packet4) (room : ℕ) → is_too_large room p ≡ false → p.df ≡ true → packet_len p ≤ room
small p room is whole = by_df p.df is whole
  where
    by_df : (df : Bool) → (df && nat_lt room (packet_len p)) ≡ false → df ≡ true → packet_len p ≤ room
    by_df true less must_stay = ltb-false room (packet_len p) less
    by_df false less must_stay = absurd cc

sendable : (i : Item) (p : Packet4) (room : ℕ) → HasPacket i p → is_fragment p ≡ false → is_expired p ≡ false → is_too_large room p ≡ false →
    IsSendable i room
sendable i p room has whole alive fits =
    record { packet = p; carried = has; whole = whole; alive = ltb-false _ _ alive; fits = small p room fits }

module _ (t : BindingTable) (lawful : IsLawful t) (p : Packet4) where
  module _ (bytes : List ℕ) (read : ip4_of bytes ≡ Ok p) where
    abbrev down : Item
    down = item.Down bytes

    has_down : HasPacket down p
    has_down = (bytes, refl, read)

    of_down : (v : Verdict) → can_drop false v ≡ true → IsGood down v
    of_down v is = drop_good down p has_down false (λ never. absurd cc) v is

    inward_good : (to : V6) → owner_end t p.dst (downstream_key p) ≡ Some to → is_expired p ≡ false → is_too_large (inward_room t.softwire) p ≡ false →
        IsGood down (verdict.Inward t.softwire.aftr to t.softwire.hop_limit t.softwire.mtu6 false)
    inward_good to is alive fits =
        let owned = owner_known t p.dst (downstream_key p) to lawful is in
        let whole = whole_packet destination_at source_at p owned.want owned.key in
        record { fits = (tt, sendable down p (t.softwire.mtu6 - 40) has_down whole alive fits); room = lawful.mtu6 }

    down_by : (v : Verdict) (end : Option V6) → owner_end t p.dst (downstream_key p) ≡ end →
        verdict_in (down_refusals t.softwire p (downstream_key p) ++ down_ways t.softwire p end) ≡ Some v → IsGood down v
    down_by v None is =
        by_ways (λ w. IsGood down w) (can_drop false) of_down (down_refusals t.softwire p (downstream_key p) ++ down_ways t.softwire p None) v
        (simp (tells_or_not, or_true)) tt
    down_by v (Some to) is =
        by_ways (λ w. IsGood down w) (can_drop false) of_down (down_refusals t.softwire p (downstream_key p) ++ down_ways t.softwire p (Some to)) v
        (simp (tells_or_not, or_true)) (
          λ none.
              inward_good to is (not_behind _ (is_expired p) none (λ e. simp (e, or_true)))
              (not_behind _ (is_too_large (inward_room t.softwire) p) none (λ e. simp (e, or_true))),
          tt,
        )

    pub down_good : (v : Verdict) → verdict_in (down_lines t (Ok p)) ≡ Some v → IsGood down v
    down_good v is = down_by v (owner_end t p.dst (downstream_key p)) refl is

  module _ (outer : Outer) (inner : List ℕ) (read : ip4_of inner ≡ Ok p) where
    abbrev up : Item
    up = item.Up outer inner

    has_up : HasPacket up p
    has_up = (inner, refl, read)

    of_up : (v : Verdict) → can_drop true v ≡ true → IsGood up v
    of_up v is = drop_good up p has_up true (λ _. tt) v is

    module _ (whole : is_fragment p ≡ false) where
      back_good : (to : V6) → is_expired p ≡ false → is_too_large (inward_room t.softwire) p ≡ false →
          IsGood up (verdict.Inward t.softwire.aftr to t.softwire.hop_limit t.softwire.mtu6 true)
      back_good to alive fits = record { fits = (tt, sendable up p (t.softwire.mtu6 - 40) has_up whole alive fits); room = lawful.mtu6 }

      out_good : is_expired p ≡ false → is_too_large t.softwire.mtu4 p ≡ false → IsGood up (verdict.Outward t.softwire.mtu4)
      out_good alive fits = record { fits = (tt, sendable up p t.softwire.mtu4 has_up whole alive fits); room = lawful.mtu4 }

      onward_by : (v : Verdict) (end : Option V6) →
          verdict_in (onward_refusals t.softwire outer p ++ (hairpin_lines t.softwire outer p (is_bound_address t p.dst) end ++ outward_lines t.softwire outer p)) ≡ Some v →
          IsGood up v
      onward_by v None =
          by_ways (λ w. IsGood up w) (can_drop true) of_up
          (onward_refusals t.softwire outer p ++ (hairpin_lines t.softwire outer p (is_bound_address t p.dst) None ++ outward_lines t.softwire outer p)) v
          (simp (tells_or_not, or_true)) (
            λ none.
                out_good (not_behind _ (is_expired p) none (λ e. simp (e, or_true)))
                (not_behind _ (is_too_large t.softwire.mtu4 p) none (λ e. simp (e, or_true))),
            tt,
          )
      onward_by v (Some to) =
          by_ways (λ w. IsGood up w) (can_drop true) of_up
          (onward_refusals t.softwire outer p ++ (hairpin_lines t.softwire outer p (is_bound_address t p.dst) (Some to) ++ outward_lines t.softwire outer p)) v
          (simp (tells_or_not, or_true)) (
            λ none.
                back_good to (not_behind _ (is_expired p) none (λ e. simp (e, or_true)))
                (not_behind _ (is_too_large (inward_room t.softwire) p) none (λ e. simp (e, or_true))),
            (
              λ none.
                  out_good (not_behind _ (is_expired p) none (λ e. simp (e, or_true)))
                  (not_behind _ (is_too_large t.softwire.mtu4 p) none (λ e. simp (e, or_true))),
              tt,
            ),
          )

    up_by : (v : Verdict) → Parts (access_lines t outer p) (onward_lines t outer p) v → IsGood up v
    up_by v (inl first) = by_ways (λ w. IsGood up w) (can_drop true) of_up (access_lines t outer p) v (simp (tells_or_not, or_true)) tt first
    up_by v (inr rest) =
        let owned = sender_owner t outer p lawful rest.0 in
        let whole = whole_packet source_at destination_at p owned.want owned.key in
        onward_by whole v (owner_end t p.dst (downstream_key p)) rest.1

    pub up_good : (v : Verdict) → verdict_in (up_lines t outer (Ok p)) ≡ Some v → IsGood up v
    up_good v is = up_by v (parted (access_lines t outer p) (onward_lines t outer p) v is)
