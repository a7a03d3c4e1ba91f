-- The lines of an ICMPv6 message name the first rule that holds.
use Rattle.std.proofs.Common.{◌≡◌, ℕ, ◌≤◌, ◌==◌, nat_le, ◌&&◌, ◌⊎◌, inl, inr, Bool, true, false, not, List, [], ◌∷◌, ◌++◌, length, slice_index, Option, Some, None, Result, Ok, Err, refl, ap, sym, ◌∙◌, subst, arith}
use Rattle.std.proofs.lemmas.Bool.{and_parts, both_ways, eq-eqb, eqb-true, le-leb, leb-true}
use Rattle.aftr_base.specs.declared.numbers.V6.{V6}
use Rattle.binding_rules.specs.Tables.{BindingTable, IsLawful}
use Rattle.icmp_codec.specs.Message6.{Message6, icmp6_of}
use Rattle.icmp_codec.specs.declared.message4.IcmpBad.{IcmpBad}
use Rattle.icmp_errors.specs.Answers.{gets_answer}
use Rattle.icmp_relay.specs.Quotes.{TunnelQuote, quote_of}
use Rattle.icmp_relay.specs.declared.quotes.QuoteBad.{QuoteBad}
use Rattle.ip_codec.specs.declared.items.Item.{Item}
use Rattle.ip_codec.specs.declared.items.Item.TheVariants as item
use Rattle.ip_codec.specs.declared.rules.Rule.{Rule}
use Rattle.ip_codec.specs.declared.rules.Rule.TheVariants as rule
use Rattle.table_words.specs.Answers.{first_b4}
use Rattle.verdict_core.specs.Access.{HasQuotedSender}
use Rattle.verdict_core.specs.Answers.{ends_at, is_missing}
use Rattle.verdict_core.specs.Lines.{Line, verdict_in}
use Rattle.verdict_core.specs.Named.{IsDroppedBy, IsFirst}
use Rattle.verdict_core.specs.NamedMessages.{IsTunnelError, KeepsMessage, LacksOwner, NamesMessages, QuotesOwn, WentToOwner, message_order}
use Rattle.verdict_core.specs.Owners.{IsSubscriberAddress}
use Rattle.verdict_core.specs.Verdicts.{error_lines, is_bound_address, is_tunnel_error, lines, message_refusals, owner_end, quote_lines, quoted_destination, quoted_source, receiver_lines, quote_refusals, relay_refusals, relay_ways}
use Rattle.verdict_core.specs.declared.verdicts.Reply.TheVariants as reply
use Rattle.verdict_core.specs.declared.verdicts.Verdict.{Verdict}
use Rattle.verdict_core.specs.declared.verdicts.Verdict.TheVariants as verdict
use Rattle.verdict_core.proofs.Naming.{Named, or_else, stop, take, take_then, turned_off, turned_on}
use Rattle.verdict_core.proofs.Owned.{owner_ends, owner_known, owner_of}
use Rattle.verdict_core.proofs.Receivers.{address_bound, address_known}

error_is : (message : List ℕ) → is_tunnel_error message ≡ true → IsTunnelError message
error_is message is =
    let all = and_parts (nat_le 8 (length message) && nat_le 1 (slice_index message 0)) (nat_le (slice_index message 0) 4) is in
    let front = and_parts (nat_le 8 (length message)) (nat_le 1 (slice_index message 0)) all.0 in
    record {
      whole = leb-true 8 (length message) front.0;
      least = leb-true 1 (slice_index message 0) front.1;
      most = leb-true (slice_index message 0) 4 all.1;
    }

is_error : (message : List ℕ) → IsTunnelError message → is_tunnel_error message ≡ true
is_error message e =
    rw (le-leb 8 (length message) e.whole, le-leb 1 (slice_index message 0) e.least, le-leb (slice_index message 0) 4 e.most) refl

module _ (t : BindingTable) (lawful : IsLawful t) (src dst : V6) (message : List ℕ) where
  abbrev Keeps : Rule → Type 0
  Keeps r = KeepsMessage t src dst message r

  one_message : (m n : Message6) → icmp6_of src.0 dst.0 message ≡ Ok m → icmp6_of src.0 dst.0 message ≡ Ok n → n ≡ m
  one_message m n first second = let both : ◌≡◌ {A = Result Message6 IcmpBad} (Ok n) (Ok m) = sym second ∙ first in cc

  unread : (why : IcmpBad) → icmp6_of src.0 dst.0 message ≡ Err why → QuotesOwn t src dst message → ⊥
  unread why is o = let both : ◌≡◌ {A = Result Message6 IcmpBad} (Ok o.error) (Err why) = sym o.read ∙ is in absurd cc

  module _ (m : Message6) (read : icmp6_of src.0 dst.0 message ≡ Ok m) where
    unquoted : (why : QuoteBad) → quote_of m.rest ≡ Err why → QuotesOwn t src dst message → ⊥
    unquoted why is o =
        let same : o.error ≡ m = one_message m o.error read o.read in
        let both : ◌≡◌ {A = Result TunnelQuote QuoteBad} (Ok o.quote) (Err why) = sym o.quoted ∙ (ap (λ (x : Message6). quote_of x.rest) same ∙ is) in absurd cc

    module _ (q : TunnelQuote) (quoted : quote_of m.rest ≡ Ok q) where
      same_quote : (o : QuotesOwn t src dst message) → o.quote ≡ q
      same_quote o =
          let same : o.error ≡ m = one_message m o.error read o.read in
          let both : ◌≡◌ {A = Result TunnelQuote QuoteBad} (Ok o.quote) (Ok q) = sym o.quoted ∙ (ap (λ (x : Message6). quote_of x.rest) same ∙ quoted) in cc

      abbrev own_quote : q.src6 ≡ t.softwire.aftr.0 → QuotesOwn t src dst message
      own_quote from = record { error = m; read = read; quote = q; quoted = quoted; from = from }

      not_own : (q.src6 == t.softwire.aftr.0) ≡ false → QuotesOwn t src dst message → ⊥
      not_own is o =
          both_ways (q.src6 == t.softwire.aftr.0) is (eq-eqb q.src6 t.softwire.aftr.0 (ap (λ (x : TunnelQuote). x.src6) (sym (same_quote o)) ∙ o.from))

      reached : ends_at (owner_end t q.inner.dst (quoted_destination q)) q.dst6 ≡ true → WentToOwner t q
      reached is =
          let o = owner_of t q.inner.dst (quoted_destination q) q.dst6 lawful is in
          record { want = o.want; key = o.key; receiver = o.owner }

      reaches : WentToOwner t q → ends_at (owner_end t q.inner.dst (quoted_destination q)) q.dst6 ≡ true
      reaches w = owner_ends t q.inner.dst (quoted_destination q) w.want q.dst6 w.key w.receiver

      sender_known : (to : V6) → owner_end t q.inner.src (quoted_source q) ≡ Some to → HasQuotedSender t q
      sender_known to is =
          let o = owner_known t q.inner.src (quoted_source q) to lawful is in
          record { want = o.want; key = o.key; binding = o.owner.binding; owner = o.owner.owner }

      sender_end : (s : HasQuotedSender t q) → owner_end t q.inner.src (quoted_source q) ≡ Some s.binding.b4
      sender_end s = ap (λ k. owner_end t q.inner.src k) s.key ∙ ap (λ owners. first_b4 owners) s.owner

      ownerless : (end : Option V6) → owner_end t q.inner.src (quoted_source q) ≡ end → (is_bound_address t q.inner.src && is_missing end) ≡ true →
          IsSubscriberAddress t q.inner.src × (HasQuotedSender t q → ⊥)
      ownerless None e is =
          let parts = and_parts (is_bound_address t q.inner.src) true is in
          (address_known t q.inner.src parts.0, λ s. let both : ◌≡◌ {A = Option V6} (Some s.binding.b4) None = sym (sender_end s) ∙ e in absurd cc)
      ownerless (Some to) e is = let parts = and_parts (is_bound_address t q.inner.src) false is in absurd (let none = parts.1 in cc)

      -- neither of the two lines is true, so the quoted packet has its owners
      owned : (end : Option V6) → owner_end t q.inner.src (quoted_source q) ≡ end → ends_at (owner_end t q.inner.dst (quoted_destination q)) q.dst6 ≡ true →
          (is_bound_address t q.inner.src && is_missing end) ≡ false → LacksOwner t q → ⊥
      owned end e there is (inl none) = none (reached there)
      owned None e there is (inr lacks) = both_ways (is_bound_address t q.inner.src && true) is (rw (address_bound t q.inner.src lacks.0) refl)
      owned (Some to) e there is (inr lacks) = lacks.1 (sender_known to e)

      mute : (o : QuotesOwn t src dst message) → gets_answer o.quote.inner ≡ false → gets_answer q.inner ≡ false
      mute o is = subst (λ (x : TunnelQuote). gets_answer x.inner ≡ false) (same_quote o) is

      lacks_here : (o : QuotesOwn t src dst message) → LacksOwner t o.quote → LacksOwner t q
      lacks_here o lacks = subst (λ (x : TunnelQuote). LacksOwner t x) (same_quote o) lacks

      ways_named : (end : Option V6) → QuotesOwn t src dst message → Named Keeps (rule.Relayed ∷ []) (relay_ways t.softwire m.kind m.word end)
      ways_named None o = stop Keeps rule.Relayed [] _ _ _ refl refl o
      ways_named (Some to) o = stop Keeps rule.Relayed [] _ _ _ refl refl o

      quote_named : (end : Option V6) → owner_end t q.inner.src (quoted_source q) ≡ end →
          Named Keeps (rule.RelayBad ∷ rule.RelayNoBinding ∷ rule.RelayMute ∷ rule.Relayed ∷ [])
          (quote_refusals t.softwire q ++ (receiver_lines q (owner_end t q.inner.dst (quoted_destination q))
          ++ (relay_refusals q (is_bound_address t q.inner.src) end ++ relay_ways t.softwire m.kind m.word end)))
      quote_named end e =
          take_then Keeps rule.RelayBad _ _ _ reply.Silent refl (λ is. not_own (turned_off (q.src6 == t.softwire.aftr.0) is))
          (λ is none. none (own_quote (eqb-true q.src6 t.softwire.aftr.0 (turned_on (q.src6 == t.softwire.aftr.0) is)))) (λ is.
          let o = own_quote (eqb-true q.src6 t.softwire.aftr.0 (turned_on (q.src6 == t.softwire.aftr.0) is)) in
          or_else Keeps rule.RelayNoBinding _ _ _ reply.Silent refl
          (λ off. (o, inl (λ w. both_ways (ends_at (owner_end t q.inner.dst (quoted_destination q)) q.dst6) (turned_off (ends_at (owner_end t q.inner.dst (quoted_destination q)) q.dst6) off) (reaches w)))) (λ off.
          let there = turned_on (ends_at (owner_end t q.inner.dst (quoted_destination q)) q.dst6) off in
          take Keeps rule.RelayNoBinding _ _ _ reply.Silent refl (λ lacks. (o, inr (ownerless end e lacks)))
          (λ has held. owned end e there has (lacks_here held.0 held.1))
          (take Keeps rule.RelayMute _ _ _ reply.Silent refl (λ quiet. (o, turned_off (gets_answer q.inner) quiet))
          (λ answered held. both_ways (gets_answer q.inner) (mute held.0 held.1) (turned_on (gets_answer q.inner) answered))
          (ways_named end o))))

  error_named : (r : Result Message6 IcmpBad) → icmp6_of src.0 dst.0 message ≡ r →
      Named Keeps (rule.RelayBad ∷ rule.RelayNoBinding ∷ rule.RelayMute ∷ rule.Relayed ∷ []) (error_lines t r)
  error_named (Err why) is = stop Keeps rule.RelayBad _ _ _ reply.Silent refl refl (unread why is)
  error_named (Ok m) is = by_quote (quote_of m.rest) refl
    where
      by_quote : (x : Result TunnelQuote QuoteBad) → quote_of m.rest ≡ x →
          Named Keeps (rule.RelayBad ∷ rule.RelayNoBinding ∷ rule.RelayMute ∷ rule.Relayed ∷ []) (quote_lines t m.kind m.word x)
      by_quote (Err why) e = stop Keeps rule.RelayBad _ _ _ reply.Silent refl refl (unquoted m is why e)
      by_quote (Ok q) e = quote_named m is q e (owner_end t q.inner.src (quoted_source q)) refl

  message_named : Named Keeps message_order (message_refusals t.softwire dst message ++ error_lines t (icmp6_of src.0 dst.0 message))
  message_named =
      take Keeps rule.NotOurs _ _ _ reply.Silent refl
      (λ is ours. both_ways (dst.0 == t.softwire.aftr.0) (turned_off (dst.0 == t.softwire.aftr.0) is) (eq-eqb dst.0 t.softwire.aftr.0 ours))
      (λ is other. other (eqb-true dst.0 t.softwire.aftr.0 (turned_on (dst.0 == t.softwire.aftr.0) is)))
      (take Keeps rule.NotSoftwire _ _ _ reply.Silent refl
      (λ is e. both_ways (is_tunnel_error message) (turned_off (is_tunnel_error message) is) (is_error message e))
      (λ is other. other (error_is message (turned_on (is_tunnel_error message) is)))
      (error_named (icmp6_of src.0 dst.0 message) refl))

pub names_messages : (t : BindingTable) (i : Item) (v : Verdict) → IsLawful t → verdict_in (lines t i) ≡ Some v → NamesMessages t i v
names_messages t (item.Icmp6 src dst message) v lawful is = λ why. (message_named t lawful src dst message).by v is why
names_messages t (item.Down bytes) v lawful is = tt
names_messages t (item.Up outer inner) v lawful is = tt
names_messages t (item.OtherIp6 dst) v lawful is = tt
names_messages t item.Held v lawful is = tt
names_messages t (item.Bad why) v lawful is = tt
