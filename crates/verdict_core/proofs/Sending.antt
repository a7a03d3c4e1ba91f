-- Who may send: what decides about a subscriber's packet is a line of its list, and answers as lines of its kind do.
use Rattle.std.proofs.Common.{◌≡◌, ℕ, ◌↔◌, ◌⊎◌, inl, inr, Bool, true, false, List, ◌++◌, Option, Some, None, Result, Ok, Err, refl, ap, sym, ◌∙◌, subst}
use Rattle.std.specs.List.{list_all}
use Rattle.aftr_base.specs.declared.numbers.V6.{V6}
use Rattle.binding_rules.specs.Tables.{BindingTable, IsLawful}
use Rattle.ip_codec.specs.Packet4.{Packet4, ip4_of}
use Rattle.ip_codec.specs.declared.items.Item.{Item}
use Rattle.ip_codec.specs.declared.items.Item.TheVariants as item
use Rattle.ip_codec.specs.declared.items.Outer.{Outer}
use Rattle.ip_codec.specs.declared.packet4.Ip4Bad.{Ip4Bad}
use Rattle.ip_codec.specs.declared.rules.Rule.{Rule}
use Rattle.port_locate.specs.Keys.{downstream_key}
use Rattle.verdict_core.specs.Access.{Forbids, Forbidden, Forwards, IsForwarded, Permits, Refused, is_forbidding, is_refusal}
use Rattle.verdict_core.specs.Named.{IsDroppedBy, IsFirst, KeepsUp, up_order}
use Rattle.verdict_core.specs.Lines.{Kind, Passing, Stopping, Line, verdict_in}
use Rattle.verdict_core.specs.Verdicts.{access_lines, hairpin_lines, is_bound_address, lines, onward_lines, outward_lines, owner_end, onward_refusals, up_lines}
use Rattle.verdict_core.specs.declared.verdicts.Reply.{Reply}
use Rattle.verdict_core.specs.declared.verdicts.Verdict.{Verdict}
use Rattle.verdict_core.specs.declared.verdicts.Verdict.TheVariants as verdict
use Rattle.verdict_core.proofs.Firsts.{Parts, decided_by, parted}
use Rattle.verdict_core.proofs.Naming.{up_named}
use Rattle.verdict_core.proofs.Permits.{may_send, one_packet, permitted_none}

-- dropped by such a rule
abbrev pub IsDropBy : (Rule → Bool) → Verdict → Type 0
IsDropBy among v = (why : Rule) × ((among why ≡ true) × ((told : Reply) × (v ≡ verdict.Drop why told)))

-- what the lines on who may send answer, and those behind them
abbrev as_refusal : Kind → Verdict → Bool
as_refusal Stopping (verdict.Drop why told) = is_refusal why
as_refusal Stopping (verdict.Outward mtu) = false
as_refusal Stopping (verdict.Inward from to hop mtu back) = false
as_refusal Stopping verdict.Held = false
as_refusal Passing v = false

abbrev as_onward : Kind → Verdict → Bool
as_onward Stopping (verdict.Drop why told) = is_forbidding why
as_onward Stopping (verdict.Outward mtu) = false
as_onward Stopping (verdict.Inward from to hop mtu back) = false
as_onward Stopping verdict.Held = false
as_onward Passing (verdict.Drop why told) = false
as_onward Passing (verdict.Outward mtu) = true
as_onward Passing (verdict.Inward from to hop mtu back) = back
as_onward Passing verdict.Held = false

refusal_is : (k : Kind) (v : Verdict) → as_refusal k v ≡ true → IsDropBy is_refusal v
refusal_is Stopping (verdict.Drop why told) is = (why, (is, (told, refl)))
refusal_is Stopping (verdict.Outward mtu) is = absurd cc
refusal_is Stopping (verdict.Inward from to hop mtu back) is = absurd cc
refusal_is Stopping verdict.Held is = absurd cc
refusal_is Passing v is = absurd cc

onward_is : (k : Kind) (v : Verdict) → as_onward k v ≡ true → IsDropBy is_forbidding v ⊎ IsForwarded v
onward_is Stopping (verdict.Drop why told) is = inl (why, (is, (told, refl)))
onward_is Stopping (verdict.Outward mtu) is = absurd cc
onward_is Stopping (verdict.Inward from to hop mtu back) is = absurd cc
onward_is Stopping verdict.Held is = absurd cc
onward_is Passing (verdict.Drop why told) is = absurd cc
onward_is Passing (verdict.Outward mtu) is = inr tt
onward_is Passing (verdict.Inward from to hop mtu back) is = inr is
onward_is Passing verdict.Held is = absurd cc

refused_by : (ls : List Line) (v : Verdict) → list_all (λ line. as_refusal line.kind line.answer) ls ≡ true → verdict_in ls ≡ Some v →
    IsDropBy is_refusal v
refused_by ls v all first =
    let d = decided_by (λ line. as_refusal line.kind line.answer) ls v all first in
    subst (λ (w : Verdict). IsDropBy is_refusal w) d.1.1 (refusal_is d.0.kind d.0.answer d.1.0)

led_by : (ls : List Line) (v : Verdict) → list_all (λ line. as_onward line.kind line.answer) ls ≡ true → verdict_in ls ≡ Some v →
    IsDropBy is_forbidding v ⊎ IsForwarded v
led_by ls v all first =
    let d = decided_by (λ line. as_onward line.kind line.answer) ls v all first in
    subst (λ (w : Verdict). IsDropBy is_forbidding w ⊎ IsForwarded w) d.1.1 (onward_is d.0.kind d.0.answer d.1.0)

-- each line has the answer of its kind
access_as_kind : (t : BindingTable) (outer : Outer) (p : Packet4) → list_all (λ line. as_refusal line.kind line.answer) (access_lines t outer p) ≡ true
access_as_kind t outer p = refl

onward_as_kind : (t : BindingTable) (outer : Outer) (p : Packet4) → list_all (λ line. as_onward line.kind line.answer) (onward_lines t outer p) ≡ true
onward_as_kind t outer p = by_end (owner_end t p.dst (downstream_key p))
  where
    by_end : (end : Option V6) → list_all (λ line. as_onward line.kind line.answer)
        (onward_refusals t.softwire outer p ++ (hairpin_lines t.softwire outer p (is_bound_address t p.dst) end ++ outward_lines t.softwire outer p)) ≡ true
    by_end None = refl
    by_end (Some to) = refl

unread_as_kind : (t : BindingTable) (outer : Outer) (refusal : Ip4Bad) → list_all (λ line. as_refusal line.kind line.answer) (up_lines t outer (Err refusal)) ≡ true
unread_as_kind t outer refusal = refl

-- the sender may not send
pub record IsDenied (t : BindingTable) (outer : Outer) (inner : List ℕ) (v : Verdict) : Type 0 where
  pub not_permitted : Permits t outer inner → ⊥
  pub dropped : IsDropBy is_refusal v

-- it may, and the lines behind decide
pub record IsLetOn (t : BindingTable) (outer : Outer) (inner : List ℕ) (v : Verdict) : Type 0 where
  pub permitted : Permits t outer inner
  pub packet : Packet4
  pub read : ip4_of inner ≡ Ok packet
  pub first : verdict_in (onward_lines t outer packet) ≡ Some v

pub outcome : (t : BindingTable) (outer : Outer) (inner : List ℕ) (v : Verdict) → IsLawful t →
    verdict_in (up_lines t outer (ip4_of inner)) ≡ Some v → IsDenied t outer inner v ⊎ IsLetOn t outer inner v
outcome t outer inner v lawful is = by_reading (ip4_of inner) refl is
  where
    by_part : (p : Packet4) → ip4_of inner ≡ Ok p → Parts (access_lines t outer p) (onward_lines t outer p) v → IsDenied t outer inner v ⊎ IsLetOn t outer inner v
    by_part p read (inl first) = inl (record {
      not_permitted = λ permitted.
          let none : verdict_in (access_lines t outer p) ≡ None = permitted_none t outer inner p read permitted in
          let both : ◌≡◌ {A = Option Verdict} None (Some v) = sym none ∙ first in cc;
      dropped = refused_by (access_lines t outer p) v (access_as_kind t outer p) first;
    })
    by_part p read (inr rest) =
        inr (record { permitted = may_send t outer inner p lawful read rest.0; packet = p; read = read; first = rest.1 })

    by_reading : (r : Result Packet4 Ip4Bad) → ip4_of inner ≡ r → verdict_in (up_lines t outer r) ≡ Some v →
        IsDenied t outer inner v ⊎ IsLetOn t outer inner v
    by_reading (Ok p) read first = by_part p read (parted (access_lines t outer p) (onward_lines t outer p) v first)
    by_reading (Err refusal) read first = inl (record {
      not_permitted = λ permitted.
          let both : ◌≡◌ {A = Result Packet4 Ip4Bad} (Ok permitted.packet) (Err refusal) = sym permitted.read ∙ read in cc;
      dropped = refused_by (up_lines t outer (Err refusal)) v (unread_as_kind t outer refusal) first;
    })

-- what is dropped does not go on
pub not_forwarded : (v : Verdict) (why : Rule) (told : Reply) → v ≡ verdict.Drop why told → IsForwarded v → ⊥
not_forwarded v why told is goes = subst (λ (w : Verdict). IsForwarded w) is goes

module _ (t : BindingTable) (lawful : IsLawful t) (outer : Outer) (inner : List ℕ) (v : Verdict) where
  -- what forbids is what decides, and the other way round
  forbidding : (o : IsLetOn t outer inner v) (why : Rule) → Forbids t outer inner why → IsDroppedBy v why
  forbidding o why f =
      let same : f.packet ≡ o.packet = one_packet inner o.packet f.packet o.read f.read in
      ((up_named t lawful o.packet outer).by v o.first why).1 (subst (λ (p : Packet4). IsFirst (KeepsUp t p) up_order why) same f.first)

  forbidden_then : (o : IsLetOn t outer inner v) (why : Rule) → IsDroppedBy v why → Forbids t outer inner why
  forbidden_then o why d = record { packet = o.packet; read = o.read; first = ((up_named t lawful o.packet outer).by v o.first why).0 d }

  led : IsLetOn t outer inner v → IsDropBy is_forbidding v ⊎ IsForwarded v
  led o = led_by (onward_lines t outer o.packet) v (onward_as_kind t outer o.packet) o.first

  forwards_by : IsDenied t outer inner v ⊎ IsLetOn t outer inner v →
      IsForwarded v ↔ (Permits t outer inner × ((why : Rule) → Forbids t outer inner why → ⊥))
  forwards_by (inl d) =
      (λ goes. absurd (not_forwarded v d.dropped.0 d.dropped.1.1.0 d.dropped.1.1.1 goes), λ right. absurd (d.not_permitted right.0))
  forwards_by (inr o) = by_way (led o)
    where
      by_way : IsDropBy is_forbidding v ⊎ IsForwarded v → IsForwarded v ↔ (Permits t outer inner × ((why : Rule) → Forbids t outer inner why → ⊥))
      by_way (inl d) = (
        λ goes. absurd (not_forwarded v d.0 d.1.1.0 d.1.1.1 goes),
        λ right. absurd (right.1 d.0 (forbidden_then o d.0 d.1.1)),
      )
      by_way (inr goes) = (λ _. (o.permitted, λ why f. let d = forbidding o why f in not_forwarded v why d.0 d.1 goes), λ _. goes)

  forbidden_by : IsDenied t outer inner v ⊎ IsLetOn t outer inner v → Permits t outer inner → (why : Rule) → Forbids t outer inner why →
      (is_forbidding why ≡ true) × ((told : Reply) × (v ≡ verdict.Drop why told))
  forbidden_by (inl d) permitted why f = absurd (d.not_permitted permitted)
  forbidden_by (inr o) permitted why f = by_way (led o)
    where
      is : IsDroppedBy v why
      is = forbidding o why f

      by_way : IsDropBy is_forbidding v ⊎ IsForwarded v → (is_forbidding why ≡ true) × ((told : Reply) × (v ≡ verdict.Drop why told))
      by_way (inl d) =
          let both : verdict.Drop why is.0 ≡ verdict.Drop d.0 d.1.1.0 = sym is.1 ∙ d.1.1.1 in
          let same : d.0 ≡ why = cc in
          (ap (λ (r : Rule). is_forbidding r) (sym same) ∙ d.1.0, is)
      by_way (inr goes) = absurd (not_forwarded v why is.0 is.1 goes)

  refused_by_rule : IsDenied t outer inner v ⊎ IsLetOn t outer inner v → (Permits t outer inner → ⊥) →
      (why : Rule) × ((is_refusal why ≡ true) × ((told : Reply) × (v ≡ verdict.Drop why told)))
  refused_by_rule (inl d) not_permitted = d.dropped
  refused_by_rule (inr o) not_permitted = absurd (not_permitted o.permitted)

pub forwards : (t : BindingTable) (i : Item) (v : Verdict) → IsLawful t → verdict_in (lines t i) ≡ Some v → Forwards t i v
forwards t (item.Up outer inner) v lawful is = forwards_by t lawful outer inner v (outcome t outer inner v lawful is)
forwards t (item.Down packet) v lawful is = tt
forwards t (item.OtherIp6 dst) v lawful is = tt
forwards t (item.Icmp6 src dst message) v lawful is = tt
forwards t item.Held v lawful is = tt
forwards t (item.Bad why) v lawful is = tt

pub forbidden : (t : BindingTable) (i : Item) (v : Verdict) → IsLawful t → verdict_in (lines t i) ≡ Some v → Forbidden t i v
forbidden t (item.Up outer inner) v lawful is = forbidden_by t lawful outer inner v (outcome t outer inner v lawful is)
forbidden t (item.Down packet) v lawful is = tt
forbidden t (item.OtherIp6 dst) v lawful is = tt
forbidden t (item.Icmp6 src dst message) v lawful is = tt
forbidden t item.Held v lawful is = tt
forbidden t (item.Bad why) v lawful is = tt

pub refused : (t : BindingTable) (i : Item) (v : Verdict) → IsLawful t → verdict_in (lines t i) ≡ Some v → Refused t i v
refused t (item.Up outer inner) v lawful is = refused_by_rule t lawful outer inner v (outcome t outer inner v lawful is)
refused t (item.Down packet) v lawful is = tt
refused t (item.OtherIp6 dst) v lawful is = tt
refused t (item.Icmp6 src dst message) v lawful is = tt
refused t item.Held v lawful is = tt
refused t (item.Bad why) v lawful is = tt
