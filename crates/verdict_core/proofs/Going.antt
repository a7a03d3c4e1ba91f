-- When a packet goes on, and when one is delivered: the lines say the same as the conditions that name no rule.
use Rattle.std.proofs.Common.{◌≡◌, ℕ, ◌≤◌, ◌==◌, ◌&&◌, ◌⊎◌, inl, inr, Bool, not, true, false, List, ◌++◌, Option, Some, None, Result, Ok, Err, refl, ap, sym, ◌∙◌, subst, arith}
use Rattle.std.proofs.lemmas.Bool.{both_ways, cases_Bool, eq-eqb, eqb-false, eqb-true, le-ltb, ltb-false, ne_eqb}
use Rattle.aftr_base.specs.declared.numbers.V6.{V6}
use Rattle.binding_rules.specs.Tables.{BindingTable, IsLawful}
use Rattle.binding_rules.specs.declared.binding.Binding.{Binding}
use Rattle.ip_codec.specs.Packet4.{Packet4, ip4_of}
use Rattle.ip_codec.specs.declared.items.Item.{Item}
use Rattle.ip_codec.specs.declared.items.Item.TheVariants as item
use Rattle.ip_codec.specs.declared.items.Outer.{Outer}
use Rattle.ip_codec.specs.declared.packet4.Ip4Bad.{Ip4Bad}
use Rattle.port_locate.specs.Keys.{downstream_key}
use Rattle.port_locate.specs.declared.keys.Key.{Key}
use Rattle.port_locate.specs.declared.keys.Key.TheVariants as key
use Rattle.table_words.specs.Answers.{first_b4}
use Rattle.verdict_core.specs.Access.{BringsIn, GoesOn, HasReceiver, IsBroughtIn, IsDeliverable, IsDelivered, IsForwarded, IsFree, IsFreeBack, IsFreeOut, IsOnItsWay, IsSentOn, IsSubscriberAddress, SendsOn}
use Rattle.verdict_core.specs.Answers.{inward, inward_room, is_too_large, is_expired}
use Rattle.verdict_core.specs.Lines.{Line, verdict_in}
use Rattle.verdict_core.specs.Verdicts.{down_lines, down_refusals, down_ways, hairpin_lines, is_bound_address, lines, onward_lines, outward_lines, owner_end, onward_refusals}
use Rattle.verdict_core.specs.declared.verdicts.Verdict.{Verdict}
use Rattle.verdict_core.specs.declared.verdicts.Verdict.TheVariants as verdict
use Rattle.verdict_core.proofs.Delivering.{is_drop}
use Rattle.verdict_core.proofs.Firsts.{by_ways, not_behind, or_true}
use Rattle.verdict_core.proofs.Good.{small}
use Rattle.verdict_core.proofs.Joins.{none_of}
use Rattle.verdict_core.proofs.Permits.{one_packet}
use Rattle.verdict_core.proofs.Receivers.{address_bound, address_known, not_large, receiver_end, receiver_has, receiver_known}
use Rattle.verdict_core.proofs.Sending.{IsDenied, IsLetOn, not_forwarded, outcome}

let_in : (icmp lets : Bool) → (icmp && not lets) ≡ false → icmp ≡ true → lets ≡ true
let_in true true none is = refl
let_in true false none is = absurd cc
let_in false lets none is = absurd cc

no_icmp : (icmp lets : Bool) → (icmp ≡ true → lets ≡ true) → (icmp && not lets) ≡ false
no_icmp true lets allowed = rw (allowed refl) refl
no_icmp false lets allowed = refl

turned_on : (b : Bool) → not b ≡ false → b ≡ true
turned_on true is = refl
turned_on false is = absurd cc

module _ (t : BindingTable) (lawful : IsLawful t) where
  -- From the IPv4 network: behind lines of which none is true, all that the conditions ask for is so ..
  module _ (bytes : List ℕ) where
    kept_in : (v : Verdict) → is_drop v ≡ true → IsDelivered v → IsDeliverable t bytes
    kept_in (verdict.Drop why told) is delivered = absurd delivered
    kept_in (verdict.Outward mtu) is delivered = absurd cc
    kept_in (verdict.Inward from to hop mtu back) is delivered = absurd cc
    kept_in verdict.Held is delivered = absurd cc

    deliverable : (p : Packet4) → ip4_of bytes ≡ Ok p → HasReceiver t p → (p.dst == t.softwire.own.0) ≡ false →
        ((p.protocol == 1) && not t.softwire.icmp_in) ≡ false → is_expired p ≡ false → is_too_large (inward_room t.softwire) p ≡ false → IsDeliverable t bytes
    deliverable p read r own icmp used large = record {
      packet = p;
      read = read;
      receiver = r;
      not_own = eqb-false p.dst t.softwire.own.0 own;
      icmp = λ is. let_in (p.protocol == 1) t.softwire.icmp_in icmp (eq-eqb p.protocol 1 is);
      alive = ltb-false p.ttl 2 used;
      fits = λ df. omega (arith, small p (inward_room t.softwire) large df, lawful.mtu6);
    }

    delivered_by : (p : Packet4) → ip4_of bytes ≡ Ok p → (v : Verdict) (end : Option V6) → owner_end t p.dst (downstream_key p) ≡ end →
        verdict_in (down_refusals t.softwire p (downstream_key p) ++ down_ways t.softwire p end) ≡ Some v → IsDelivered v → IsDeliverable t bytes
    delivered_by p read v None is =
        by_ways (λ w. IsDelivered w → IsDeliverable t bytes) is_drop kept_in (down_refusals t.softwire p (downstream_key p) ++ down_ways t.softwire p None) v refl tt
    delivered_by p read v (Some to) is =
        by_ways (λ w. IsDelivered w → IsDeliverable t bytes) is_drop kept_in (down_refusals t.softwire p (downstream_key p) ++ down_ways t.softwire p (Some to)) v refl (
          λ none delivered.
              deliverable p read (receiver_known t p to lawful is) (not_behind _ (p.dst == t.softwire.own.0) none (λ e. simp (e, or_true)))
              (not_behind _ ((p.protocol == 1) && not t.softwire.icmp_in) none (λ e. simp (e, or_true)))
              (not_behind _ (is_expired p) none (λ e. simp (e, or_true)))
              (not_behind _ (is_too_large (inward_room t.softwire) p) none (λ e. simp (e, or_true))),
          tt,
        )

    delivered : (v : Verdict) (r : Result Packet4 Ip4Bad) → ip4_of bytes ≡ r → verdict_in (down_lines t r) ≡ Some v → IsDelivered v → IsDeliverable t bytes
    delivered v (Ok p) read first = delivered_by p read v (owner_end t p.dst (downstream_key p)) refl first
    delivered v (Err refusal) read first =
        by_ways (λ w. IsDelivered w → IsDeliverable t bytes) is_drop kept_in (down_lines t (Err refusal)) v refl tt first

    -- .. and where all of it is so, no line is true but the way into the tunnel.
    down_first : (d : IsDeliverable t bytes) → verdict_in (down_lines t (Ok d.packet)) ≡ Some (inward t.softwire false d.receiver.binding.b4)
    down_first d =
        ap (λ (k : Key). verdict_in (down_refusals t.softwire d.packet k ++ down_ways t.softwire d.packet (owner_end t d.packet.dst k))) d.receiver.key
        ∙ ap (λ (owners : List Binding).
        verdict_in (down_refusals t.softwire d.packet (key.At d.receiver.want) ++ down_ways t.softwire d.packet (first_b4 owners))) d.receiver.owner
        ∙ rw (own, icmp, used, large) refl
      where
        own : (d.packet.dst == t.softwire.own.0) ≡ false
        own = ne_eqb d.packet.dst t.softwire.own.0 d.not_own

        icmp : ((d.packet.protocol == 1) && not t.softwire.icmp_in) ≡ false
        icmp = no_icmp (d.packet.protocol == 1) t.softwire.icmp_in (λ e. d.icmp (eqb-true d.packet.protocol 1 e))

        used : is_expired d.packet ≡ false
        used = le-ltb d.packet.ttl 2 d.alive

        large : is_too_large (inward_room t.softwire) d.packet ≡ false
        large = not_large d.packet (inward_room t.softwire) (λ df. omega (arith, d.fits df))

    brought_way : (v : Verdict) → verdict_in (down_lines t (ip4_of bytes)) ≡ Some v → (d : IsDeliverable t bytes) →
        v ≡ inward t.softwire false d.receiver.binding.b4
    brought_way v is d =
        let both : ◌≡◌ {A = Option Verdict} (Some v) (Some (inward t.softwire false d.receiver.binding.b4)) =
        sym is ∙ ap (λ (r : Result Packet4 Ip4Bad). verdict_in (down_lines t r)) d.read ∙ down_first d in cc

    brought_in : (v : Verdict) → verdict_in (down_lines t (ip4_of bytes)) ≡ Some v → IsBroughtIn t bytes v
    brought_in v is = record {
      exactly = (delivered v (ip4_of bytes) refl is, λ d. subst (λ (w : Verdict). IsDelivered w) (sym (brought_way v is d)) tt);
      way = brought_way v is;
    }

  -- From a subscriber: the same behind the lines on who may send.
  module _ (outer : Outer) (p : Packet4) where
    abbrev onward_by : Option V6 → List Line
    onward_by end =
        onward_refusals t.softwire outer p ++ (hairpin_lines t.softwire outer p (is_bound_address t p.dst) end ++ outward_lines t.softwire outer p)

    kept_on : (v : Verdict) → is_drop v ≡ true → IsForwarded v → IsFree t p
    kept_on (verdict.Drop why told) is goes = absurd goes
    kept_on (verdict.Outward mtu) is goes = absurd cc
    kept_on (verdict.Inward from to hop mtu back) is goes = absurd cc
    kept_on verdict.Held is goes = absurd cc

    free_out : is_expired p ≡ false → is_bound_address t p.dst ≡ false → (p.dst == t.softwire.own.0) ≡ false → is_too_large t.softwire.mtu4 p ≡ false →
        IsFree t p
    free_out used unbound own large = record {
      alive = ltb-false p.ttl 2 used;
      back = λ found. absurd (both_ways (is_bound_address t p.dst) unbound (address_bound t p.dst found));
      out = λ _. record { not_own = eqb-false p.dst t.softwire.own.0 own; fits = small p t.softwire.mtu4 large };
    }

    free_back : HasReceiver t p → is_expired p ≡ false → t.softwire.hairpin ≡ true → is_too_large (inward_room t.softwire) p ≡ false → IsFree t p
    free_back r used hairpin large = record {
      alive = ltb-false p.ttl 2 used;
      back = λ _. record {
        hairpin = hairpin;
        receiver = r;
        fits = λ df. omega (arith, small p (inward_room t.softwire) large df, lawful.mtu6);
      };
      out = λ none. absurd (none (address_known t p.dst (receiver_has t p r)));
    }

    free_by : (v : Verdict) (end : Option V6) → owner_end t p.dst (downstream_key p) ≡ end → verdict_in (onward_by end) ≡ Some v → IsForwarded v → IsFree t p
    free_by v None is =
        by_ways (λ w. IsForwarded w → IsFree t p) is_drop kept_on (onward_by None) v refl (
          λ none goes.
              free_out (not_behind _ (is_expired p) none (λ e. simp (e, or_true)))
              (not_behind _ (is_bound_address t p.dst) none (λ e. simp (e, or_true)))
              (not_behind _ (p.dst == t.softwire.own.0) none (λ e. simp (e, or_true)))
              (not_behind _ (is_too_large t.softwire.mtu4 p) none (λ e. simp (e, or_true))),
          tt,
        )
    free_by v (Some to) is =
        let r = receiver_known t p to lawful is in
        let ours = receiver_has t p r in
        by_ways (λ w. IsForwarded w → IsFree t p) is_drop kept_on (onward_by (Some to)) v refl (
          λ none goes.
              free_back r (not_behind _ (is_expired p) none (λ e. simp (e, or_true)))
              (turned_on t.softwire.hairpin (not_behind _ (not t.softwire.hairpin) none (λ e. simp (e, ours, or_true))))
              (not_behind _ (is_too_large (inward_room t.softwire) p) none (λ e. simp (e, or_true))),
          (λ none goes. absurd (both_ways _ none (simp or_true)), tt),
        )

    back_first : is_bound_address t p.dst ≡ true → 2 ≤ p.ttl → (f : IsFreeBack t p) →
        verdict_in (onward_lines t outer p) ≡ Some (inward t.softwire true f.receiver.binding.b4)
    back_first ours alive f = ap (λ (end : Option V6). verdict_in (onward_by end)) (receiver_end t p f.receiver) ∙ rw (used, ours, f.hairpin, large) refl
      where
        used : is_expired p ≡ false
        used = le-ltb p.ttl 2 alive

        large : is_too_large (inward_room t.softwire) p ≡ false
        large = not_large p (inward_room t.softwire) (λ df. omega (arith, f.fits df))

    out_first : is_bound_address t p.dst ≡ false → 2 ≤ p.ttl → IsFreeOut t p → verdict_in (onward_lines t outer p) ≡ Some (verdict.Outward t.softwire.mtu4)
    out_first unbound alive f = ap (λ (end : Option V6). verdict_in (onward_by end)) nobody ∙ rw (used, unbound, own, large) refl
      where
        nobody : owner_end t p.dst (downstream_key p) ≡ None
        nobody = none_of (owner_end t p.dst (downstream_key p)) (λ to is.
            both_ways (is_bound_address t p.dst) unbound (receiver_has t p (receiver_known t p to lawful is)))

        used : is_expired p ≡ false
        used = le-ltb p.ttl 2 alive

        own : (p.dst == t.softwire.own.0) ≡ false
        own = ne_eqb p.dst t.softwire.own.0 f.not_own

        large : is_too_large t.softwire.mtu4 p ≡ false
        large = not_large p t.softwire.mtu4 f.fits

    one_verdict : (v w : Verdict) → verdict_in (onward_lines t outer p) ≡ Some v → verdict_in (onward_lines t outer p) ≡ Some w → v ≡ w
    one_verdict v w first second = let both : ◌≡◌ {A = Option Verdict} (Some v) (Some w) = sym first ∙ second in cc

    on_its_way : (v : Verdict) → IsFree t p → verdict_in (onward_lines t outer p) ≡ Some v → IsOnItsWay t p v
    on_its_way v free first = record {
      back = λ found.
          let f = free.back found in
          (f.receiver, one_verdict v (inward t.softwire true f.receiver.binding.b4) first (back_first (address_bound t p.dst found) free.alive f));
      out = λ none.
          let unbound = not_address none in
          one_verdict v (verdict.Outward t.softwire.mtu4) first (out_first unbound free.alive (free.out none));
    }
      where
        not_address : (IsSubscriberAddress t p.dst → ⊥) → is_bound_address t p.dst ≡ false
        not_address none = not_behind false (is_bound_address t p.dst) refl (λ e. absurd (none (address_known t p.dst e)))

    goes_by : (v : Verdict) → IsOnItsWay t p v → IsForwarded v
    goes_by v w = by_address (cases_Bool (is_bound_address t p.dst))
      where
        by_address : (is_bound_address t p.dst ≡ true) ⊎ (is_bound_address t p.dst ≡ false) → IsForwarded v
        by_address (inl ours) = subst (λ (x : Verdict). IsForwarded x) (sym (w.back (address_known t p.dst ours)).1) refl
        by_address (inr unbound) =
            let is = w.out (λ found. both_ways (is_bound_address t p.dst) unbound (address_bound t p.dst found)) in
            subst (λ (x : Verdict). IsForwarded x) (sym is) tt

  module _ (outer : Outer) (inner : List ℕ) (v : Verdict) where
    way_on : IsLetOn t outer inner v → (g : GoesOn t outer inner) → IsOnItsWay t g.sender.packet v
    way_on o g =
        let same : o.packet ≡ g.sender.packet = one_packet inner g.sender.packet o.packet g.sender.read o.read in
        on_its_way outer g.sender.packet v g.free (subst (λ (q : Packet4). verdict_in (onward_lines t outer q) ≡ Some v) same o.first)

    sent_on : IsDenied t outer inner v ⊎ IsLetOn t outer inner v → IsSentOn t outer inner v
    sent_on (inl d) = record {
      exactly = (
        λ goes. absurd (not_forwarded v d.dropped.0 d.dropped.1.1.0 d.dropped.1.1.1 goes),
        λ g. absurd (d.not_permitted g.sender),
      );
      way = λ g. absurd (d.not_permitted g.sender);
    }
    sent_on (inr o) = record {
      exactly = (
        λ goes. record {
          sender = o.permitted;
          free = subst (λ (q : Packet4). IsFree t q) (one_packet inner o.permitted.packet o.packet o.permitted.read o.read)
              (free_by outer o.packet v (owner_end t o.packet.dst (downstream_key o.packet)) refl o.first goes);
        },
        λ g. goes_by outer g.sender.packet v (way_on o g),
      );
      way = way_on o;
    }

pub sends_on : (t : BindingTable) (i : Item) (v : Verdict) → IsLawful t → verdict_in (lines t i) ≡ Some v → SendsOn t i v
sends_on t (item.Up outer inner) v lawful is = sent_on t lawful outer inner v (outcome t outer inner v lawful is)
sends_on t (item.Down packet) v lawful is = tt
sends_on t (item.OtherIp6 dst) v lawful is = tt
sends_on t (item.Icmp6 src dst message) v lawful is = tt
sends_on t item.Held v lawful is = tt
sends_on t (item.Bad why) v lawful is = tt

pub brings_in : (t : BindingTable) (i : Item) (v : Verdict) → IsLawful t → verdict_in (lines t i) ≡ Some v → BringsIn t i v
brings_in t (item.Down packet) v lawful is = brought_in t lawful packet v is
brings_in t (item.Up outer inner) v lawful is = tt
brings_in t (item.OtherIp6 dst) v lawful is = tt
brings_in t (item.Icmp6 src dst message) v lawful is = tt
brings_in t item.Held v lawful is = tt
brings_in t (item.Bad why) v lawful is = tt
