-- The lines name the first rule that holds.
use Rattle.std.proofs.Common.{◌≡◌, ℕ, ◌≤◌, ◌<◌, ◌==◌, nat_lt, ◌&&◌, ◌↔◌, inl, inr, Bool, true, false, not, if◌then◌else◌, List, [], ◌∷◌, ◌++◌, Option, Some, None, Result, Ok, Err, refl, ap, sym, ◌∙◌, subst, arith}
use Rattle.std.proofs.lemmas.Bool.{and_parts, both_ways, eq-eqb, eqb-false, eqb-true, ltb-false, ltb-true}
use Rattle.aftr_base.specs.declared.numbers.V6.{V6}
use Rattle.binding_rules.specs.Tables.{BindingTable, IsLawful}
use Rattle.ip_codec.specs.Packet4.{Packet4, ip4_of, packet_len}
use Rattle.ip_codec.specs.declared.items.Item.{Item}
use Rattle.ip_codec.specs.declared.items.Item.TheVariants as item
use Rattle.ip_codec.specs.declared.items.Outer.{Outer}
use Rattle.ip_codec.specs.declared.packet4.Ip4Bad.{Ip4Bad}
use Rattle.ip_codec.specs.declared.rules.Rule.{Rule}
use Rattle.ip_codec.specs.declared.rules.Rule.TheVariants as rule
use Rattle.port_locate.specs.Keys.{downstream_key}
use Rattle.port_locate.specs.declared.keys.Key.{Key}
use Rattle.port_locate.specs.declared.keys.Key.TheVariants as key
use Rattle.verdict_core.specs.Answers.{inward, inward_room, is_expired, is_missing, is_too_large, ways_to}
use Rattle.verdict_core.specs.Lines.{Line, passes, verdict_in}
use Rattle.verdict_core.specs.Named.{IsDroppedBy, IsFirst, KeepsDown, KeepsUp, NamesDown, down_order, up_order}
use Rattle.verdict_core.specs.Owners.{FitsNetwork, FitsTunnel, HasReceiver, IsSubscriberAddress}
use Rattle.verdict_core.specs.Verdicts.{down_lines, down_refusals, down_ways, hairpin_lines, is_bound_address, is_icmp_bad, lines, names_no_port, onward_lines, onward_refusals, outward_lines, owner_end}
use Rattle.verdict_core.specs.declared.verdicts.Reply.{Reply}
use Rattle.verdict_core.specs.declared.verdicts.Reply.TheVariants as reply
use Rattle.verdict_core.specs.declared.verdicts.Verdict.{Verdict}
use Rattle.verdict_core.specs.declared.verdicts.Verdict.TheVariants as verdict
use Rattle.verdict_core.proofs.Good.{small}
use Rattle.verdict_core.proofs.Members.{any_found}
use Rattle.verdict_core.proofs.Permits.{one_packet}
use Rattle.verdict_core.proofs.Receivers.{address_bound, address_known, receiver_end, receiver_has, receiver_known}

-- the lines drop by exactly the first of the rules that holds
pub record Named (Holds : Rule → Type 0) (rs : List Rule) (ls : List Line) : Type 0 where
  pub by : (v : Verdict) → verdict_in ls ≡ Some v → (why : Rule) → IsDroppedBy v why ↔ IsFirst Holds rs why

-- what a line with a true condition answers
drops : (r : Rule) (told : Reply) (answer v : Verdict) → answer ≡ verdict.Drop r told → answer ≡ v → (why : Rule) → IsDroppedBy v why ↔ (why ≡ r)
drops r told answer v is same why = (
  λ dropped. let both : verdict.Drop why dropped.0 ≡ verdict.Drop r told = sym dropped.1 ∙ (sym same ∙ is) in cc,
  λ e. (told, sym same ∙ (is ∙ ap (λ (x : Rule). verdict.Drop x told) (sym e))),
)

some_same : (a b : Verdict) → ◌≡◌ {A = Option Verdict} (Some a) (Some b) → a ≡ b
some_same a b e = cc

module _ (Holds : Rule → Type 0) (r : Rule) (rs : List Rule) where
  -- the rule cannot hold, and has no line
  skip : (ls : List Line) → (Holds r → ⊥) → Named Holds rs ls → Named Holds (r ∷ rs) ls
  skip ls not_here rest = record { by = λ v first why. (λ d. inr (not_here, (rest.by v first why).0 d), by_part v first why) }
    where
      by_part : (v : Verdict) → verdict_in ls ≡ Some v → (why : Rule) → IsFirst Holds (r ∷ rs) why → IsDroppedBy v why
      by_part v first why (inl here) = absurd (not_here here.1)
      by_part v first why (inr later) = (rest.by v first why).1 later.1

  module _ (line : Line) (ls : List Line) (told : Reply) (is : line.answer ≡ verdict.Drop r told) where
    here : (v : Verdict) → line.answer ≡ v → Holds r → (why : Rule) → IsDroppedBy v why ↔ IsFirst Holds (r ∷ rs) why
    here v same holds why = (λ d. inl ((drops r told line.answer v is same why).0 d, holds), by_part)
      where
        by_part : IsFirst Holds (r ∷ rs) why → IsDroppedBy v why
        by_part (inl this) = (drops r told line.answer v is same why).1 this.0
        by_part (inr later) = absurd (later.0 holds)

    -- its line decides
    pub stop : line.test ≡ true → Holds r → Named Holds (r ∷ rs) (line ∷ ls)
    stop on holds = record {
      by = λ v first why.
          let decided : ◌≡◌ {A = Option Verdict} (Some line.answer) (Some v) =
          ap (λ (b : Bool). if b then Some line.answer else verdict_in ls) (sym on) ∙ first in
          here v (some_same line.answer v decided) holds why;
    }

    -- its line says whether it holds; the others follow where it does not
    pub take_then : (line.test ≡ true → Holds r) → (line.test ≡ false → Holds r → ⊥) → (line.test ≡ false → Named Holds rs ls) → Named Holds (r ∷ rs) (line ∷ ls)
    take_then on_holds off_fails rest = by_test line.test refl
      where
        by_test : (b : Bool) → line.test ≡ b → Named Holds (r ∷ rs) (line ∷ ls)
        by_test true e = stop e (on_holds e)
        by_test false e = record {
          by = λ v first why.
              let behind : verdict_in ls ≡ Some v = ap (λ (b : Bool). if b then Some line.answer else verdict_in ls) (sym e) ∙ first in
              (skip ls (off_fails e) (rest e)).by v behind why;
        }

    pub take : (line.test ≡ true → Holds r) → (line.test ≡ false → Holds r → ⊥) → Named Holds rs ls → Named Holds (r ∷ rs) (line ∷ ls)
    take on_holds off_fails rest = take_then on_holds off_fails (λ _. rest)

    -- its line is one of two that say so
    pub or_else : (line.test ≡ true → Holds r) → (line.test ≡ false → Named Holds (r ∷ rs) ls) → Named Holds (r ∷ rs) (line ∷ ls)
    or_else on_holds rest = by_test line.test refl
      where
        by_test : (b : Bool) → line.test ≡ b → Named Holds (r ∷ rs) (line ∷ ls)
        by_test true e = stop e (on_holds e)
        by_test false e = record {
          by = λ v first why. (rest e).by v (ap (λ (b : Bool). if b then Some line.answer else verdict_in ls) (sym e) ∙ first) why;
        }

-- a line of no rule that is false, one that lets the packet pass, and no line at all
module _ (Holds : Rule → Type 0) where
  pass : (rs : List Rule) (line : Line) (ls : List Line) → line.test ≡ false → Named Holds rs ls → Named Holds rs (line ∷ ls)
  pass rs line ls off rest = record {
    by = λ v first why. rest.by v (ap (λ (b : Bool). if b then Some line.answer else verdict_in ls) (sym off) ∙ first) why;
  }

  goes : (line : Line) (ls : List Line) → line.test ≡ true → ((why : Rule) → IsDroppedBy line.answer why → ⊥) → Named Holds [] (line ∷ ls)
  goes line ls on not_dropped = record {
    by = λ v first why.
        let decided : ◌≡◌ {A = Option Verdict} (Some line.answer) (Some v) =
        ap (λ (b : Bool). if b then Some line.answer else verdict_in ls) (sym on) ∙ first in
        (λ d. not_dropped why (subst (λ (w : Verdict). IsDroppedBy w why) (sym (some_same line.answer v decided)) d), λ none. absurd none);
  }

  nothing : Named Holds [] []
  nothing = record { by = λ v first why. none_decides v first }
    where
      none_decides : {X : Type 0} (v : Verdict) → ◌≡◌ {A = Option Verdict} None (Some v) → X
      none_decides v first = absurd cc

not_inward : (from to : V6) (limit mtu : ℕ) (back : Bool) (why : Rule) → IsDroppedBy (verdict.Inward from to limit mtu back) why → ⊥
not_inward from to limit mtu back why d = let is = d.1 in absurd cc

not_outward : (mtu : ℕ) (why : Rule) → IsDroppedBy (verdict.Outward mtu) why → ⊥
not_outward mtu why d = let is = d.1 in absurd cc

-- ---- the conditions
bad_key : (k : Key) → is_icmp_bad k ≡ true → k ≡ key.IcmpBad
bad_key key.IcmpBad is = refl
bad_key (key.At want) is = absurd cc
bad_key key.NoPort is = absurd cc

portless_key : (k : Key) → names_no_port k ≡ true → k ≡ key.NoPort
portless_key key.NoPort is = refl
portless_key (key.At want) is = absurd cc
portless_key key.IcmpBad is = absurd cc

kept_out : (icmp lets : Bool) → (icmp && not lets) ≡ true → (icmp ≡ true) × (lets ≡ false)
kept_out true false is = (refl, refl)
kept_out true true is = absurd cc
kept_out false lets is = absurd cc

not_kept_out : (icmp lets : Bool) → (icmp && not lets) ≡ false → icmp ≡ true → lets ≡ false → ⊥
not_kept_out true true is on off = absurd cc
not_kept_out true false is on off = absurd cc
not_kept_out false lets is on off = absurd cc

large_is : (p : Packet4) (room : ℕ) → is_too_large room p ≡ true → (p.df ≡ true → packet_len p ≤ room) → ⊥
large_is p room is fits =
    let parts = and_parts p.df (nat_lt room (packet_len p)) is in
    let more = ltb-true room (packet_len p) parts.1 in
    absurd (omega (arith, more, fits parts.0))

pub turned_off : (b : Bool) → not b ≡ true → b ≡ false
turned_off false is = refl
turned_off true is = absurd cc

pub turned_on : (b : Bool) → not b ≡ false → b ≡ true
turned_on true is = refl
turned_on false is = absurd cc

still_on : (b : Bool) → not b ≡ false → b ≡ false → ⊥
still_on true is off = absurd cc
still_on false is off = absurd cc

-- no binding has the router's own address
lawful_own : (t : BindingTable) → IsLawful t → (address : ℕ) → IsSubscriberAddress t address → address ≡ t.softwire.own.0 → ⊥
lawful_own t lawful address has is =
    let found = any_found (λ b. b.v4.0 == address) t.bindings (address_bound t address has) in
    lawful.not_own found.1.there.0 found.0 found.1.there.1 (eqb-true found.0.v4.0 address found.1.passes ∙ is)

module _ (t : BindingTable) (lawful : IsLawful t) (p : Packet4) where
  abbrev k : Key
  k = downstream_key p

  missing : (end : Option V6) → owner_end t p.dst k ≡ end → is_missing end ≡ true → HasReceiver t p → ⊥
  missing None e is r = let both : ◌≡◌ {A = Option V6} (Some r.binding.b4) None = sym (receiver_end t p r) ∙ e in absurd cc
  missing (Some to) e is r = absurd cc

  found : (end : Option V6) → owner_end t p.dst k ≡ end → is_missing end ≡ false → (HasReceiver t p → ⊥) → ⊥
  found None e is none = absurd cc
  found (Some to) e is none = none (receiver_known t p to lawful e)

  too_large_in : is_too_large (inward_room t.softwire) p ≡ true → FitsTunnel t p → ⊥
  too_large_in is fits = large_is p (inward_room t.softwire) is (λ df. let room = fits df in omega (arith, room, lawful.mtu6))

  fits_in : is_too_large (inward_room t.softwire) p ≡ false → (FitsTunnel t p → ⊥) → ⊥
  fits_in is not_fit = not_fit (λ df. let room = small p (inward_room t.softwire) is df in omega (arith, room, lawful.mtu6))

  down_ends : (end : Option V6) → Named (KeepsDown t p) [] (ways_to end (inward t.softwire false))
  down_ends None = nothing (KeepsDown t p)
  down_ends (Some to) = goes (KeepsDown t p) (passes (inward t.softwire false to)) [] refl (not_inward t.softwire.aftr to t.softwire.hop_limit t.softwire.mtu6 false)

  down_named : (end : Option V6) → owner_end t p.dst k ≡ end → Named (KeepsDown t p) down_order (down_refusals t.softwire p k ++ down_ways t.softwire p end)
  down_named end e =
      take (KeepsDown t p) rule.ToSelf _ _ _ reply.Silent refl (λ is. eqb-true p.dst t.softwire.own.0 is) (λ is. eqb-false p.dst t.softwire.own.0 is)
      (take (KeepsDown t p) rule.IcmpOff _ _ _ reply.Silent refl
      (λ is. let both = kept_out (p.protocol == 1) t.softwire.icmp_in is in (eqb-true p.protocol 1 both.0, both.1))
      (λ is h. not_kept_out (p.protocol == 1) t.softwire.icmp_in is (eq-eqb p.protocol 1 h.0) h.1)
      (take (KeepsDown t p) rule.IcmpBad _ _ _ reply.Silent refl (λ is. bad_key k is) (λ is h. both_ways (is_icmp_bad k) is (ap is_icmp_bad h))
      (take (KeepsDown t p) rule.NoPort _ _ _ reply.Silent refl (λ is. portless_key k is) (λ is h. both_ways (names_no_port k) is (ap names_no_port h))
      (take (KeepsDown t p) rule.NoBinding _ _ _ _ refl (missing end e) (found end e)
      (take (KeepsDown t p) rule.Ttl _ _ _ _ refl (λ is. ltb-true p.ttl 2 is) (λ is h. let least = ltb-false p.ttl 2 is in absurd (omega (arith, least, h)))
      (take (KeepsDown t p) rule.TooBig _ _ _ _ refl too_large_in fits_in (down_ends end)))))))

  module _ (outer : Outer) where
    -- the destination is an address of the table, and so not the router's own
    not_self : IsSubscriberAddress t p.dst → p.dst ≡ t.softwire.own.0 → ⊥
    not_self has is = lawful_own t lawful p.dst has is

    too_large_out : is_too_large t.softwire.mtu4 p ≡ true → FitsNetwork t p → ⊥
    too_large_out is fits = large_is p t.softwire.mtu4 is fits

    fits_out : is_too_large t.softwire.mtu4 p ≡ false → (FitsNetwork t p → ⊥) → ⊥
    fits_out is not_fit = not_fit (small p t.softwire.mtu4 is)

    used : is_expired p ≡ true → p.ttl < 2
    used is = ltb-true p.ttl 2 is

    not_used : is_expired p ≡ false → p.ttl < 2 → ⊥
    not_used is less = let least = ltb-false p.ttl 2 is in absurd (omega (arith, least, less))

    large_back : IsSubscriberAddress t p.dst → is_too_large (inward_room t.softwire) p ≡ false → KeepsUp t p rule.TooBig → ⊥
    large_back has is (inl h) = fits_in is h.1
    large_back has is (inr h) = h.0 has

    large_out : (IsSubscriberAddress t p.dst → ⊥) → is_too_large t.softwire.mtu4 p ≡ false → KeepsUp t p rule.TooBig → ⊥
    large_out none is (inl h) = none h.0
    large_out none is (inr h) = fits_out is h.1

    up_named_by : (ours : Bool) (end : Option V6) → is_bound_address t p.dst ≡ ours → owner_end t p.dst k ≡ end →
        Named (KeepsUp t p) up_order (onward_refusals t.softwire outer p ++ (hairpin_lines t.softwire outer p ours end ++ outward_lines t.softwire outer p))
    up_named_by true (Some to) known e =
        let has = address_known t p.dst known in
        let r = receiver_known t p to lawful e in
        take (KeepsUp t p) rule.Ttl _ _ _ _ refl used not_used
        (take (KeepsUp t p) rule.HairpinOff _ _ _ reply.Silent refl (λ is. (has, turned_off t.softwire.hairpin is)) (λ is h. still_on t.softwire.hairpin is h.1)
        (take (KeepsUp t p) rule.HairpinNoBinding _ _ _ _ refl (λ is. absurd cc) (λ is h. h.1 r)
        (skip (KeepsUp t p) rule.ToSelf _ _ (not_self has)
        (take (KeepsUp t p) rule.TooBig _ _ _ _ refl (λ is. inl (has, too_large_in is)) (λ is h. large_back has is h)
        (goes (KeepsUp t p) (passes (inward t.softwire true to)) _ refl (not_inward t.softwire.aftr to t.softwire.hop_limit t.softwire.mtu6 true))))))
    up_named_by true None known e =
        let has = address_known t p.dst known in
        take (KeepsUp t p) rule.Ttl _ _ _ _ refl used not_used
        (take (KeepsUp t p) rule.HairpinOff _ _ _ reply.Silent refl (λ is. (has, turned_off t.softwire.hairpin is)) (λ is h. still_on t.softwire.hairpin is h.1)
        (stop (KeepsUp t p) rule.HairpinNoBinding _ _ _ _ refl refl (has, missing None e refl)))
    up_named_by false None known e =
        let none : IsSubscriberAddress t p.dst → ⊥ = λ has. both_ways (is_bound_address t p.dst) known (address_bound t p.dst has) in
        take (KeepsUp t p) rule.Ttl _ _ _ _ refl used not_used
        (take (KeepsUp t p) rule.HairpinOff _ _ _ reply.Silent refl (λ is. absurd cc) (λ is h. none h.0)
        (take (KeepsUp t p) rule.HairpinNoBinding _ _ _ _ refl (λ is. absurd cc) (λ is h. none h.0)
        (pass (KeepsUp t p) _ _ _ refl
        (take (KeepsUp t p) rule.ToSelf _ _ _ reply.Silent refl (λ is. eqb-true p.dst t.softwire.own.0 is) (λ is. eqb-false p.dst t.softwire.own.0 is)
        (take (KeepsUp t p) rule.TooBig _ _ _ _ refl (λ is. inr (none, too_large_out is)) (λ is h. large_out none is h)
        (goes (KeepsUp t p) (passes (verdict.Outward t.softwire.mtu4)) [] refl (not_outward t.softwire.mtu4)))))))
    up_named_by false (Some to) known e = absurd (both_ways (is_bound_address t p.dst) known (receiver_has t p (receiver_known t p to lawful e)))

    pub up_named : Named (KeepsUp t p) up_order (onward_lines t outer p)
    up_named = up_named_by (is_bound_address t p.dst) (owner_end t p.dst k) refl refl

names_down_by : (t : BindingTable) (bytes : List ℕ) (v : Verdict) (r : Result Packet4 Ip4Bad) → IsLawful t → ip4_of bytes ≡ r → verdict_in (down_lines t r) ≡ Some v →
    (p : Packet4) → ip4_of bytes ≡ Ok p → (why : Rule) → IsDroppedBy v why ↔ IsFirst (KeepsDown t p) down_order why
names_down_by t bytes v (Err refusal) lawful is first p read why =
    let both : ◌≡◌ {A = Result Packet4 Ip4Bad} (Ok p) (Err refusal) = sym read ∙ is in absurd cc
names_down_by t bytes v (Ok q) lawful is first p read why =
    let same : q ≡ p = one_packet bytes p q read is in
    (down_named t lawful p (owner_end t p.dst (downstream_key p)) refl).by v (subst (λ (x : Packet4). verdict_in (down_lines t (Ok x)) ≡ Some v) same first) why

pub names_down : (t : BindingTable) (i : Item) (v : Verdict) → IsLawful t → verdict_in (lines t i) ≡ Some v → NamesDown t i v
names_down t (item.Down bytes) v lawful is = λ p read why. names_down_by t bytes v (ip4_of bytes) lawful refl is p read why
names_down t (item.Up outer inner) v lawful is = tt
names_down t (item.OtherIp6 dst) v lawful is = tt
names_down t (item.Icmp6 src dst message) v lawful is = tt
names_down t item.Held v lawful is = tt
names_down t (item.Bad why) v lawful is = tt
