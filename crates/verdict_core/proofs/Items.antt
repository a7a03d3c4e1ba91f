-- The laws of every item's verdict, and that there is one.
use Rattle.std.proofs.Common.{◌≡◌, ℕ, true, List, ◌++◌, Option, Some, None, Result, Ok, Err, refl, ap, sym, ◌∙◌, subst, unwrap_or}
use Rattle.std.specs.List.{list_all}
use Rattle.aftr_base.specs.declared.numbers.V6.{V6}
use Rattle.binding_rules.specs.Tables.{BindingTable, IsLawful, binding_table}
use Rattle.binding_rules.specs.declared.settings.Softwire.{Softwire}
use Rattle.icmp_codec.specs.Message6.{Message6, icmp6_of}
use Rattle.icmp_codec.specs.declared.message4.IcmpBad.{IcmpBad}
use Rattle.icmp_relay.specs.Quotes.{TunnelQuote, quote_of}
use Rattle.icmp_relay.specs.declared.quotes.QuoteBad.{QuoteBad}
use Rattle.ip_codec.specs.Packet4.{Packet4, ip4_of}
use Rattle.ip_codec.specs.declared.items.Item.{Item}
use Rattle.ip_codec.specs.declared.items.Item.TheVariants as item
use Rattle.ip_codec.specs.declared.items.Outer.{Outer}
use Rattle.ip_codec.specs.declared.packet4.Ip4Bad.{Ip4Bad}
use Rattle.ip_codec.specs.declared.rules.Rule.{Rule}
use Rattle.port_locate.specs.Keys.{downstream_key}
use Rattle.verdict_core.specs.Access.{Delivers, RelaysOwn}
use Rattle.verdict_core.specs.Answers.{silent}
use Rattle.verdict_core.specs.Fitting.{Fits, HasRoom}
use Rattle.verdict_core.specs.Lines.{Line, verdict_in}
use Rattle.verdict_core.specs.Verdicts.{access_lines, down_lines, down_refusals, down_ways, error_lines, hairpin_lines, is_bound_address, lines, message_refusals, outward_lines, owner_end, quote_lines, quote_refusals, quoted_destination, quoted_source, receiver_lines, relay_lines, onward_refusals, up_lines, verdict_of}
use Rattle.verdict_core.specs.declared.verdicts.Verdict.{Verdict}
use Rattle.verdict_core.specs.declared.verdicts.Verdict.TheVariants as verdict
use Rattle.verdict_core.proofs.Delivering.{down_delivers, up_delivers}
use Rattle.verdict_core.proofs.Firsts.{Decides, by_silence, decides_behind, is_silent, or_true, some_decides}
use Rattle.verdict_core.proofs.Good.{down_good, up_good}
use Rattle.verdict_core.proofs.Relaying.{message_own}

module _ (t : BindingTable) where
  down_decides : (r : Result Packet4 Ip4Bad) → Decides (down_lines t r)
  down_decides (Err refusal) = some_decides (down_lines t (Err refusal)) (simp or_true)
  down_decides (Ok p) = by_end (owner_end t p.dst (downstream_key p))
    where
      by_end : (end : Option V6) → Decides (down_refusals t.softwire p (downstream_key p) ++ down_ways t.softwire p end)
      by_end None = some_decides (down_refusals t.softwire p (downstream_key p) ++ down_ways t.softwire p None) (simp or_true)
      by_end (Some to) = some_decides (down_refusals t.softwire p (downstream_key p) ++ down_ways t.softwire p (Some to)) (simp or_true)

  abbrev up_by : Outer → Packet4 → Option V6 → List Line
  up_by outer p end =
      access_lines t outer p
      ++ (onward_refusals t.softwire outer p ++ (hairpin_lines t.softwire outer p (is_bound_address t p.dst) end ++ outward_lines t.softwire outer p))

  up_decides : (outer : Outer) (r : Result Packet4 Ip4Bad) → Decides (up_lines t outer r)
  up_decides outer (Err refusal) = some_decides (up_lines t outer (Err refusal)) (simp or_true)
  up_decides outer (Ok p) = by_end (owner_end t p.dst (downstream_key p))
    where
      by_end : (end : Option V6) → Decides (up_by outer p end)
      by_end None = some_decides (up_by outer p None) (simp or_true)
      by_end (Some to) = some_decides (up_by outer p (Some to)) (simp or_true)

  abbrev quote_by : ℕ → ℕ → TunnelQuote → Option V6 → List Line
  quote_by kind word q end =
      quote_refusals t.softwire q
      ++ (receiver_lines q (owner_end t q.inner.dst (quoted_destination q)) ++ relay_lines t.softwire kind word q (is_bound_address t q.inner.src) end)

  quote_decides : (kind word : ℕ) (r : Result TunnelQuote QuoteBad) → Decides (quote_lines t kind word r)
  quote_decides kind word (Err refusal) = some_decides (quote_lines t kind word (Err refusal)) refl
  quote_decides kind word (Ok q) = by_end (owner_end t q.inner.src (quoted_source q))
    where
      by_end : (end : Option V6) → Decides (quote_by kind word q end)
      by_end None = some_decides (quote_by kind word q None) (simp or_true)
      by_end (Some to) = some_decides (quote_by kind word q (Some to)) (simp or_true)

  error_decides : (r : Result Message6 IcmpBad) → Decides (error_lines t r)
  error_decides (Err refusal) = some_decides (error_lines t (Err refusal)) refl
  error_decides (Ok m) = quote_decides m.kind m.word (quote_of m.rest)

  decides : (i : Item) → Decides (lines t i)
  decides item.Held = some_decides (lines t item.Held) refl
  decides (item.Bad why) = some_decides (lines t (item.Bad why)) refl
  decides (item.Down packet) = down_decides (ip4_of packet)
  decides (item.Up outer inner) = up_decides outer (ip4_of inner)
  decides (item.OtherIp6 dst) = some_decides (lines t (item.OtherIp6 dst)) (simp or_true)
  decides (item.Icmp6 src dst message) =
      decides_behind (message_refusals t.softwire dst message) (error_lines t (icmp6_of src.0 dst.0 message)) (error_decides (icmp6_of src.0 dst.0 message))

-- each item has a verdict
pub some_verdict : (t : BindingTable) (i : Item) → verdict_in (lines t i) ≡ Some (verdict_of t i)
some_verdict t i =
    let d = decides t i in
    let same : verdict_of t i ≡ d.0 = ap (λ (o : Option Verdict). unwrap_or o verdict.Held) d.1 in
    d.1 ∙ ap Some (sym same)

-- the verdict fits the item, names enough room, goes to the owner of its destination, and relays to the sender
pub record IsFine (t : BindingTable) (i : Item) (v : Verdict) : Type 0 where
  pub fits : Fits i v
  pub room : HasRoom v
  pub delivers : Delivers t i v
  pub relays : RelaysOwn t i v

-- what decides in a list of silent lines
fine_refused : (t : BindingTable) (i : Item) → ((why : Rule) → RelaysOwn t i (silent why)) → (ls : List Line) (v : Verdict) →
    list_all (λ line. is_silent line.answer) ls ≡ true → verdict_in ls ≡ Some v → IsFine t i v
fine_refused t i relays ls v all first =
    by_silence (λ w. IsFine t i w) (λ why. record { fits = tt; room = tt; delivers = tt; relays = relays why }) ls v all first

pub fine : (t : BindingTable) (i : Item) (v : Verdict) → IsLawful t → verdict_in (lines t i) ≡ Some v → IsFine t i v
fine t item.Held v lawful is =
    let same : verdict.Held ≡ v = cc in
    subst (λ w. IsFine t item.Held w) same (record { fits = refl; room = tt; delivers = tt; relays = tt })
fine t (item.Bad why) v lawful is = fine_refused t (item.Bad why) (λ _. tt) (lines t (item.Bad why)) v refl is
fine t (item.OtherIp6 dst) v lawful is = fine_refused t (item.OtherIp6 dst) (λ _. tt) (lines t (item.OtherIp6 dst)) v refl is
fine t (item.Icmp6 src dst message) v lawful is =
    let own = message_own t lawful src dst message v is in
    record { fits = own.fits; room = own.room; delivers = own.delivers; relays = own.relays }
fine t (item.Down packet) v lawful is = by_reading (ip4_of packet) refl is
  where
    by_reading : (r : Result Packet4 Ip4Bad) → ip4_of packet ≡ r → verdict_in (down_lines t r) ≡ Some v → IsFine t (item.Down packet) v
    by_reading (Ok p) read first =
        let good = down_good t lawful p packet read v first in
        record { fits = good.fits; room = good.room; delivers = down_delivers t lawful v packet (Ok p) read first; relays = tt }
    by_reading (Err refusal) read first = fine_refused t (item.Down packet) (λ _. tt) (down_lines t (Err refusal)) v refl first
fine t (item.Up outer inner) v lawful is = by_reading (ip4_of inner) refl is
  where
    by_reading : (r : Result Packet4 Ip4Bad) → ip4_of inner ≡ r → verdict_in (up_lines t outer r) ≡ Some v → IsFine t (item.Up outer inner) v
    by_reading (Ok p) read first =
        let good = up_good t lawful p outer inner read v first in
        record { fits = good.fits; room = good.room; delivers = up_delivers t lawful v outer inner (Ok p) read first; relays = tt }
    by_reading (Err refusal) read first = fine_refused t (item.Up outer inner) (λ _. tt) (up_lines t outer (Err refusal)) v refl first

-- the verdict under the settings that are the table's
pub under_settings : (t : BindingTable) (s : Softwire) (i : Item) (v : Verdict) → s ≡ t.softwire →
    verdict_in (lines (binding_table t.edition s t.bindings) i) ≡ Some v → verdict_in (lines t i) ≡ Some v
under_settings t s i v same is = subst (λ (x : Softwire). verdict_in (lines (binding_table t.edition x t.bindings) i) ≡ Some v) same is

pub value_is : (t : BindingTable) (i : Item) (v : Verdict) → verdict_in (lines t i) ≡ Some v → v ≡ verdict_of t i
value_is t i v is = sym (ap (λ (o : Option Verdict). unwrap_or o verdict.Held) is)

-- and back: the one verdict is what the first true line answers
pub first_is : (t : BindingTable) (i : Item) (v : Verdict) → v ≡ verdict_of t i → verdict_in (lines t i) ≡ Some v
first_is t i v is = some_verdict t i ∙ ap Some (sym is)
