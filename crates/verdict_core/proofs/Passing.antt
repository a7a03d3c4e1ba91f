-- When an error about a tunnel packet is passed on: exactly where the conditions that name no rule hold.
use Rattle.std.proofs.Common.{◌≡◌, ℕ, inl, inr, true, List, ◌++◌, Option, Some, None, Result, Ok, refl, ap, sym, ◌∙◌, subst}
use Rattle.std.specs.List.{list_all}
use Rattle.std.proofs.lemmas.Bool.{both_ways}
use Rattle.aftr_base.specs.declared.numbers.V6.{V6}
use Rattle.binding_rules.specs.Tables.{BindingTable, IsLawful}
use Rattle.binding_rules.specs.declared.binding.Binding.{Binding}
use Rattle.icmp_codec.specs.Message6.{Message6, icmp6_of}
use Rattle.icmp_codec.specs.declared.message4.IcmpBad.{IcmpBad}
use Rattle.icmp_errors.specs.Answers.{gets_answer}
use Rattle.icmp_relay.specs.Quotes.{TunnelQuote, quote_of}
use Rattle.icmp_relay.specs.declared.quotes.QuoteBad.{QuoteBad}
use Rattle.ip_codec.specs.declared.items.Item.{Item}
use Rattle.ip_codec.specs.declared.items.Item.TheVariants as item
use Rattle.port_locate.specs.declared.keys.Key.{Key}
use Rattle.table_words.specs.Answers.{first_b4}
use Rattle.verdict_core.specs.Access.{HasQuotedSender, IsOwedOn, IsPassedOn, IsRelayed, IsRelayedOwn, IsSubscriberAddress, LeadsTo, PassesOn, RelayPermits}
use Rattle.verdict_core.specs.Answers.{relayed}
use Rattle.verdict_core.specs.Lines.{Line, verdict_in}
use Rattle.verdict_core.specs.Verdicts.{error_lines, is_bound_address, is_tunnel_error, lines, message_refusals, owner_end, quote_lines, quote_refusals, quoted_destination, quoted_source, receiver_lines, relay_lines, relay_refusals, relay_ways}
use Rattle.verdict_core.specs.declared.verdicts.Path.{Path}
use Rattle.verdict_core.specs.declared.verdicts.Path.TheVariants as path
use Rattle.verdict_core.specs.declared.verdicts.Reply.TheVariants as reply
use Rattle.verdict_core.specs.declared.verdicts.Verdict.{Verdict}
use Rattle.verdict_core.specs.declared.verdicts.Verdict.TheVariants as verdict
use Rattle.verdict_core.proofs.Firsts.{Parts, by_silence, is_silent, or_true, parted, so_behind}
use Rattle.verdict_core.proofs.Receivers.{address_bound, address_known}
use Rattle.verdict_core.proofs.Items.{fine}
use Rattle.verdict_core.proofs.Relaying.{relays_all}

-- what is passed on is not decided by silent lines
loud_behind : (ls more : List Line) (v : Verdict) → list_all (λ line. is_silent line.answer) ls ≡ true → verdict_in (ls ++ more) ≡ Some v → IsRelayed v →
    (verdict_in ls ≡ None) × (verdict_in more ≡ Some v)
loud_behind ls more v all is goes = by_part (parted ls more v is)
  where
    by_part : Parts ls more v → (verdict_in ls ≡ None) × (verdict_in more ≡ Some v)
    by_part (inl first) = absurd (by_silence (λ w. IsRelayed w → ⊥) (λ why goes. goes) ls v all first goes)
    by_part (inr rest) = rest

module _ (t : BindingTable) (src dst : V6) (message : List ℕ) where
  -- what is passed on is about a packet of the router's own, and leads somewhere
  own_way : (v : Verdict) → IsRelayed v → IsRelayedOwn t src dst message v →
      (permitted : RelayPermits t src dst message) × ((way : Path) × LeadsTo t permitted.quote way)
  own_way (verdict.Drop why (reply.Relay own code mtu way)) goes is = (is.0, (way, is.1))
  own_way (verdict.Drop why reply.Silent) goes is = absurd goes
  own_way (verdict.Drop why (reply.Unreachable own way)) goes is = absurd goes
  own_way (verdict.Drop why (reply.TooBig own mtu way)) goes is = absurd goes
  own_way (verdict.Drop why (reply.Exceeded own way)) goes is = absurd goes
  own_way (verdict.Drop why (reply.Policy from to hop)) goes is = absurd goes
  own_way (verdict.Outward mtu) goes is = absurd goes
  own_way (verdict.Inward from to hop mtu back) goes is = absurd goes
  own_way verdict.Held goes is = absurd goes

  sender_by : (quote : TunnelQuote) (way : Path) → LeadsTo t quote way → IsSubscriberAddress t quote.inner.src → HasQuotedSender t quote
  sender_by quote path.Plain leads found = absurd (both_ways (is_bound_address t quote.inner.src) leads (address_bound t quote.inner.src found))
  sender_by quote (path.Tunnel hop from to) leads found =
      record { want = leads.1.0; key = leads.1.1.0; binding = leads.1.1.1.binding; owner = leads.1.1.1.owner }

  owed_on : (v : Verdict) → IsLawful t → verdict_in (lines t (item.Icmp6 src dst message)) ≡ Some v → IsRelayed v → IsOwedOn t src dst message
  owed_on v lawful is goes =
      let own = own_way v goes (fine t (item.Icmp6 src dst message) v lawful is).relays in
      let permitted = own.0 in
      let quote = permitted.quote in
      let kind = permitted.error.kind in
      let word = permitted.error.word in
      let ours = is_bound_address t quote.inner.src in
      let end = owner_end t quote.inner.src (quoted_source quote) in
      let after = relay_lines t.softwire kind word quote ours end in
      let receivers = receiver_lines quote (owner_end t quote.inner.dst (quoted_destination quote)) in
      let first = loud_behind (message_refusals t.softwire dst message) (error_lines t (icmp6_of src.0 dst.0 message)) v refl is goes in
      let at_quote : verdict_in (quote_lines t kind word (Ok quote)) ≡ Some v =
      sym (ap (λ r. verdict_in (error_lines t r)) permitted.read ∙ ap (λ r. verdict_in (quote_lines t kind word r)) permitted.quoted) ∙ first.1 in
      let second = loud_behind (quote_refusals t.softwire quote) (receivers ++ after) v refl at_quote goes in
      let third = loud_behind receivers after v refl second.1 goes in
      let fourth = loud_behind (relay_refusals quote ours end) (relay_ways t.softwire kind word end) v refl third.1 goes in
      record {
        about = permitted;
        error = so_behind (message_refusals t.softwire dst message) (is_tunnel_error message) first.0 (λ other. simp (other, or_true));
        source = sender_by quote own.1.0 own.1.1;
        answered = so_behind (relay_refusals quote ours end) (gets_answer quote.inner) fourth.0 (λ other. simp (other, or_true));
      }

  -- the quote of a message is one
  one_quote : (a b : RelayPermits t src dst message) → a.quote ≡ b.quote
  one_quote a b =
      let errors : ◌≡◌ {A = Result Message6 IcmpBad} (Ok a.error) (Ok b.error) = sym a.read ∙ b.read in
      let same : a.error ≡ b.error = cc in
      let quotes : ◌≡◌ {A = Result TunnelQuote QuoteBad} (Ok a.quote) (Ok b.quote) =
      sym a.quoted ∙ (ap (λ (m : Message6). quote_of m.rest) same ∙ b.quoted) in cc

  passed_way : (v : Verdict) → IsLawful t → verdict_in (lines t (item.Icmp6 src dst message)) ≡ Some v → (o : IsOwedOn t src dst message) →
      (way : Path) × (LeadsTo t o.about.quote way × (v ≡ relayed t.softwire o.about.error.kind o.about.error.word way))
  passed_way v lawful is o = (all.0, (leads, all.1))
    where
      found : is_bound_address t o.about.quote.inner.src ≡ true → owner_end t o.about.quote.inner.src (quoted_source o.about.quote) ≡ None → ⊥
      found ours none =
          let s = o.source (address_known t o.about.quote.inner.src ours) in
          let some : owner_end t o.about.quote.inner.src (quoted_source o.about.quote) ≡ Some s.binding.b4 =
          ap (λ (k : Key). owner_end t o.about.quote.inner.src k) s.key ∙ ap (λ (owners : List Binding). first_b4 owners) s.owner in
          let both : ◌≡◌ {A = Option V6} None (Some s.binding.b4) = sym none ∙ some in cc

      all : (way : Path) × (v ≡ relayed t.softwire o.about.error.kind o.about.error.word way)
      all = relays_all t (item.Icmp6 src dst message) v is o.about o.error found o.answered

      own : IsRelayedOwn t src dst message (relayed t.softwire o.about.error.kind o.about.error.word all.0)
      own = subst (λ (w : Verdict). IsRelayedOwn t src dst message w) all.1 (fine t (item.Icmp6 src dst message) v lawful is).relays

      leads : LeadsTo t o.about.quote all.0
      leads = subst (λ (q : TunnelQuote). LeadsTo t q all.0) (one_quote own.0 o.about) own.1

  passed_on : (v : Verdict) → IsLawful t → verdict_in (lines t (item.Icmp6 src dst message)) ≡ Some v → IsPassedOn t src dst message v
  passed_on v lawful is = record {
    exactly = (owed_on v lawful is, λ o. subst (λ (w : Verdict). IsRelayed w) (sym (passed_way v lawful is o).1.1) tt);
    way = passed_way v lawful is;
  }

pub passes_on : (t : BindingTable) (i : Item) (v : Verdict) → IsLawful t → verdict_in (lines t i) ≡ Some v → PassesOn t i v
passes_on t (item.Icmp6 src dst message) v lawful is = passed_on t src dst message v lawful is
passes_on t (item.Up outer inner) v lawful is = tt
passes_on t (item.Down packet) v lawful is = tt
passes_on t (item.OtherIp6 dst) v lawful is = tt
passes_on t item.Held v lawful is = tt
passes_on t (item.Bad why) v lawful is = tt
