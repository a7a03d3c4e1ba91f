-- Which of the lists laid end to end decides, by what the code found in each.
use Rattle.std.proofs.Common.{◌≡◌, ℕ, Bool, List, ◌++◌, Option, Some, None, Ok, refl, ap, sym, ◌∙◌}
use Rattle.aftr_base.specs.declared.numbers.V6.{V6}
use Rattle.binding_rules.specs.Tables.{BindingTable}
use Rattle.icmp_codec.specs.Message6.{icmp6_of}
use Rattle.icmp_relay.specs.Quotes.{TunnelQuote}
use Rattle.ip_codec.specs.Packet4.{Packet4}
use Rattle.ip_codec.specs.declared.items.Item.TheVariants as item
use Rattle.ip_codec.specs.declared.items.Outer.{Outer}
use Rattle.port_locate.specs.Keys.{downstream_key, upstream_key}
use Rattle.table_words.specs.Answers.{has_binding, tunnel_of}
use Rattle.table_words.specs.declared.destination.Destination.{Destination}
use Rattle.verdict_core.specs.Lines.{Line, verdict_in}
use Rattle.verdict_core.specs.Verdicts.{access_lines, down_lines, down_refusals, down_ways, error_lines, hairpin_lines, is_bound_address, lines, message_refusals, onward_lines, onward_refusals, outward_lines, owner_end, quote_lines, quote_refusals, quoted_destination, quoted_source, receiver_lines, relay_lines, sender_lines, up_lines, up_refusals}
use Rattle.verdict_core.specs.declared.verdicts.Verdict.{Verdict}
use Rattle.verdict_core.proofs.Firsts.{decided_before, decided_behind}

-- what is no value is none
pub none_of : {X : Type 0} (o : Option X) → ((x : X) → o ≡ Some x → ⊥) → o ≡ None
none_of None not_some = refl
none_of (Some x) not_some = absurd (not_some x refl)

module _ (t : BindingTable) (p : Packet4) (v : Verdict) where
  abbrev down_first : List Line
  down_first = down_refusals t.softwire p (downstream_key p)

  pub down_refused : verdict_in down_first ≡ Some v → verdict_in (down_lines t (Ok p)) ≡ Some v
  down_refused first = decided_before down_first (down_ways t.softwire p (owner_end t p.dst (downstream_key p))) v first

  pub down_led : verdict_in down_first ≡ None → (end : Option V6) → end ≡ owner_end t p.dst (downstream_key p) →
      verdict_in (down_ways t.softwire p end) ≡ Some v → verdict_in (down_lines t (Ok p)) ≡ Some v
  down_led none end end_is first =
      decided_behind down_first (down_ways t.softwire p (owner_end t p.dst (downstream_key p))) none
      ∙ (ap (λ (o : Option V6). verdict_in (down_ways t.softwire p o)) (sym end_is) ∙ first)

module _ (t : BindingTable) (outer : Outer) (p : Packet4) (v : Verdict) where
  abbrev Up : Type 0
  Up = verdict_in (up_lines t outer (Ok p)) ≡ Some v

  abbrev up_first : List Line
  up_first = up_refusals t.softwire outer p (upstream_key p)

  abbrev by_sender : Option V6 → List Line
  by_sender end = sender_lines t.softwire outer end

  pub up_refused : verdict_in up_first ≡ Some v → Up
  up_refused first =
      decided_before (access_lines t outer p) (onward_lines t outer p) v
      (decided_before up_first (by_sender (owner_end t p.src (upstream_key p))) v first)

  module _ (named : verdict_in up_first ≡ None) (end : Option V6) (end_is : end ≡ owner_end t p.src (upstream_key p)) where
    sender_decides : verdict_in (access_lines t outer p) ≡ verdict_in (by_sender end)
    sender_decides =
        decided_behind up_first (by_sender (owner_end t p.src (upstream_key p))) named
        ∙ ap (λ (o : Option V6). verdict_in (by_sender o)) (sym end_is)

    pub up_denied : verdict_in (by_sender end) ≡ Some v → Up
    up_denied first = decided_before (access_lines t outer p) (onward_lines t outer p) v (sender_decides ∙ first)

    module _ (sender : verdict_in (by_sender end) ≡ None) where
      onward_decides : verdict_in (onward_lines t outer p) ≡ Some v → Up
      onward_decides is = decided_behind (access_lines t outer p) (onward_lines t outer p) (sender_decides ∙ sender) ∙ is

      abbrev back : Bool → Option V6 → List Line
      back is_ours owner = hairpin_lines t.softwire outer p is_ours owner

      abbrev here : List Line
      here = back (is_bound_address t p.dst) (owner_end t p.dst (downstream_key p))

      pub up_kept : verdict_in (onward_refusals t.softwire outer p) ≡ Some v → Up
      up_kept first = onward_decides (decided_before (onward_refusals t.softwire outer p) (here ++ outward_lines t.softwire outer p) v first)

      module _ (free : verdict_in (onward_refusals t.softwire outer p) ≡ None) (destination : Destination)
          (bound_is : has_binding destination ≡ is_bound_address t p.dst) (owner_is : tunnel_of destination ≡ owner_end t p.dst (downstream_key p)) where
        pub up_led : verdict_in (back (has_binding destination) (tunnel_of destination) ++ outward_lines t.softwire outer p) ≡ Some v → Up
        up_led is =
            onward_decides (decided_behind (onward_refusals t.softwire outer p) (here ++ outward_lines t.softwire outer p) free
            ∙ (ap (λ (b : Bool). verdict_in (back b (owner_end t p.dst (downstream_key p)) ++ outward_lines t.softwire outer p)) (sym bound_is)
            ∙ (ap (λ (o : Option V6). verdict_in (back (has_binding destination) o ++ outward_lines t.softwire outer p)) (sym owner_is) ∙ is)))

module _ (t : BindingTable) (kind word : ℕ) (q : TunnelQuote) (v : Verdict) where
  abbrev Quoted : Type 0
  Quoted = verdict_in (quote_lines t kind word (Ok q)) ≡ Some v

  abbrev relaying : Bool → Option V6 → List Line
  relaying is_ours end = relay_lines t.softwire kind word q is_ours end

  abbrev on : List Line
  on = relaying (is_bound_address t q.inner.src) (owner_end t q.inner.src (quoted_source q))

  abbrev receiving : List Line
  receiving = receiver_lines q (owner_end t q.inner.dst (quoted_destination q))

  pub quote_refused : verdict_in (quote_refusals t.softwire q) ≡ Some v → Quoted
  quote_refused first = decided_before (quote_refusals t.softwire q) (receiving ++ on) v first

  module _ (own : verdict_in (quote_refusals t.softwire q) ≡ None) (end : Option V6) (end_is : end ≡ owner_end t q.inner.dst (quoted_destination q)) where
    own_decides : verdict_in (receiving ++ on) ≡ Some v → Quoted
    own_decides is = decided_behind (quote_refusals t.softwire q) (receiving ++ on) own ∙ is

    receiver_is : verdict_in receiving ≡ verdict_in (receiver_lines q end)
    receiver_is = ap (λ (o : Option V6). verdict_in (receiver_lines q o)) (sym end_is)

    pub quote_lost : verdict_in (receiver_lines q end) ≡ Some v → Quoted
    quote_lost first = own_decides (decided_before receiving on v (receiver_is ∙ first))

    pub quote_relayed : verdict_in (receiver_lines q end) ≡ None → (source : Destination) →
        has_binding source ≡ is_bound_address t q.inner.src → tunnel_of source ≡ owner_end t q.inner.src (quoted_source q) →
        verdict_in (relaying (has_binding source) (tunnel_of source)) ≡ Some v → Quoted
    quote_relayed none source bound_is owner_is first =
        own_decides (decided_behind receiving on (receiver_is ∙ none)
        ∙ (ap (λ (b : Bool). verdict_in (relaying b (owner_end t q.inner.src (quoted_source q)))) (sym bound_is)
        ∙ (ap (λ (o : Option V6). verdict_in (relaying (has_binding source) o)) (sym owner_is) ∙ first)))

module _ (t : BindingTable) (src dst : V6) (message : List ℕ) (v : Verdict) where
  pub message_refused : verdict_in (message_refusals t.softwire dst message) ≡ Some v → verdict_in (lines t (item.Icmp6 src dst message)) ≡ Some v
  message_refused first =
      decided_before (message_refusals t.softwire dst message) (error_lines t (icmp6_of src.0 dst.0 message)) v first

  pub message_led : verdict_in (message_refusals t.softwire dst message) ≡ None → verdict_in (error_lines t (icmp6_of src.0 dst.0 message)) ≡ Some v →
      verdict_in (lines t (item.Icmp6 src dst message)) ≡ Some v
  message_led none first =
      decided_behind (message_refusals t.softwire dst message) (error_lines t (icmp6_of src.0 dst.0 message)) none ∙ first
