-- Errors about tunnel packets: whom they reach, and which are passed on.
use Rattle.std.proofs.Common.{◌≡◌, ℕ, ◌==◌, ◌⊎◌, inl, inr, if◌then◌else◌, Bool, not, true, false, List, ◌++◌, Option, Some, None, Result, Ok, Err, refl, ap, sym, ◌∙◌, subst}
use Rattle.std.proofs.lemmas.Bool.{eqb-true, eq-eqb, not-false, not-true}
use Rattle.std.specs.List.{list_all}
use Rattle.aftr_base.specs.declared.numbers.V6.{V6}
use Rattle.binding_rules.specs.Tables.{BindingTable, IsLawful}
use Rattle.icmp_codec.specs.Message6.{Message6, icmp6_of}
use Rattle.icmp_codec.specs.declared.message4.IcmpBad.{IcmpBad}
use Rattle.icmp_errors.specs.Answers.{gets_answer}
use Rattle.icmp_relay.specs.Quotes.{TunnelQuote, quote_of}
use Rattle.icmp_relay.specs.declared.quotes.QuoteBad.{QuoteBad}
use Rattle.ip_codec.specs.declared.items.Item.{Item}
use Rattle.ip_codec.specs.declared.items.Item.TheVariants as item
use Rattle.verdict_core.specs.Access.{Delivers, IsRelayedOwn, LeadsTo, RelayPermits, RelaysAll}
use Rattle.verdict_core.specs.Answers.{ends_at, relayed, relayed_code}
use Rattle.verdict_core.specs.Fitting.{Fits, HasRoom, QuotesTunnel}
use Rattle.verdict_core.specs.Lines.{Line, verdict_in}
use Rattle.verdict_core.specs.Verdicts.{error_lines, is_bound_address, lines, message_refusals, owner_end, quote_lines, quote_refusals, quoted_destination, quoted_source, receiver_lines, relay_lines, relay_refusals, relay_ways}
use Rattle.verdict_core.specs.declared.verdicts.Path.{Path}
use Rattle.verdict_core.specs.declared.verdicts.Path.TheVariants as path
use Rattle.verdict_core.specs.declared.verdicts.Verdict.{Verdict}
use Rattle.verdict_core.proofs.Firsts.{Parts, by_silence, decided_behind, is_silent, or_true, parted, so_behind}
use Rattle.verdict_core.proofs.Owned.{owner_ends, owner_known, owner_of}

-- what an answer about a message has to be: it fits the message, and is relayed only to the quoted packet's source
pub record IsOwn (t : BindingTable) (src dst : V6) (message : List ℕ) (v : Verdict) : Type 0 where
  pub fits : Fits (item.Icmp6 src dst message) v
  pub room : HasRoom v
  pub delivers : Delivers t (item.Icmp6 src dst message) v
  pub relays : IsRelayedOwn t src dst message v

-- the code is one of the two
one_code : (kind : ℕ) → (relayed_code kind ≡ 1) ⊎ (relayed_code kind ≡ 4)
one_code kind = by_kind (kind == 2)
  where
    by_kind : (b : Bool) → (◌≡◌ {A = ℕ} (if b then 4 else 1) 1) ⊎ (◌≡◌ {A = ℕ} (if b then 4 else 1) 4)
    by_kind true = inr refl
    by_kind false = inl refl

module _ (t : BindingTable) (lawful : IsLawful t) (src dst : V6) (message : List ℕ) where
  abbrev P : Verdict → Type 0
  P v = IsOwn t src dst message v

  -- what decides in a list of silent lines
  own_refused : (ls : List Line) (v : Verdict) → list_all (λ line. is_silent line.answer) ls ≡ true → verdict_in ls ≡ Some v → P v
  own_refused ls v all first = by_silence P (λ why. record { fits = tt; room = tt; delivers = tt; relays = tt }) ls v all first

  module _ (ours : dst.0 ≡ t.softwire.aftr.0) (error : Message6) (read : icmp6_of src.0 dst.0 message ≡ Ok error) (quote : TunnelQuote)
      (quoted : quote_of error.rest ≡ Ok quote) where
    quotes : QuotesTunnel src dst message
    quotes = record { message = error; read = read; quote = quote; quoted = quoted }

    module _ (from : quote.src6 ≡ t.softwire.aftr.0) (sent_to : ends_at (owner_end t quote.inner.dst (quoted_destination quote)) quote.dst6 ≡ true) where
      abbrev permitted : RelayPermits t src dst message
      permitted =
          let owned = owner_of t quote.inner.dst (quoted_destination quote) quote.dst6 lawful sent_to in
          record {
            ours = ours;
            error = error;
            read = read;
            quote = quote;
            quoted = quoted;
            from = from;
            want = owned.want;
            key = owned.key;
            receiver = owned.owner;
          }

      own_relayed : (way : Path) (v : Verdict) → LeadsTo t quote way → Some (relayed t.softwire error.kind error.word way) ≡ Some v → P v
      own_relayed way v leads is =
          let same : relayed t.softwire error.kind error.word way ≡ v = cc in
          subst P same (record { fits = (quotes, one_code error.kind); room = tt; delivers = tt; relays = (permitted, leads) })

      -- behind the lines that keep it back, a message goes to the source's owner, and outside a tunnel where the address is no
      -- subscriber's
      own_way : (v : Verdict) (end : Option V6) → owner_end t quote.inner.src (quoted_source quote) ≡ end →
          verdict_in (relay_refusals quote (is_bound_address t quote.inner.src) end) ≡ None →
          verdict_in (relay_ways t.softwire error.kind error.word end) ≡ Some v → P v
      own_way v (Some to) is none first = own_relayed (path.Tunnel t.softwire.hop_limit t.softwire.aftr to) v leads first
        where
          leads : LeadsTo t quote (path.Tunnel t.softwire.hop_limit t.softwire.aftr to)
          leads =
              let owned = owner_known t quote.inner.src (quoted_source quote) to lawful is in
              (refl, (owned.want, (owned.key, owned.owner)))
      own_way v None is none first = own_relayed path.Plain v (not-true _ outside) first
        where
          outside : not (is_bound_address t quote.inner.src) ≡ true
          outside =
              so_behind (relay_refusals quote (is_bound_address t quote.inner.src) None) (not (is_bound_address t quote.inner.src)) none
              (λ other. simp (not-false (is_bound_address t quote.inner.src) other, or_true))

      relay_own : (v : Verdict) (end : Option V6) → owner_end t quote.inner.src (quoted_source quote) ≡ end →
          Parts (relay_refusals quote (is_bound_address t quote.inner.src) end) (relay_ways t.softwire error.kind error.word end) v → P v
      relay_own v end is (inl first) = own_refused (relay_refusals quote (is_bound_address t quote.inner.src) end) v refl first
      relay_own v end is (inr rest) = own_way v end is rest.0 rest.1

    abbrev end_of_source : Option V6
    end_of_source = owner_end t quote.inner.src (quoted_source quote)

    abbrev after : List Line
    after = relay_lines t.softwire error.kind error.word quote (is_bound_address t quote.inner.src) end_of_source

    abbrev receivers : List Line
    receivers = receiver_lines quote (owner_end t quote.inner.dst (quoted_destination quote))

    by_receiver : (v : Verdict) → quote.src6 ≡ t.softwire.aftr.0 → Parts receivers after v → P v
    by_receiver v from (inl first) = own_refused receivers v refl first
    by_receiver v from (inr rest) =
        let sent_to =
        so_behind receivers (ends_at (owner_end t quote.inner.dst (quoted_destination quote)) quote.dst6) rest.0 (λ other. simp (other, or_true)) in
        relay_own from sent_to v end_of_source refl
        (parted (relay_refusals quote (is_bound_address t quote.inner.src) end_of_source) (relay_ways t.softwire error.kind error.word end_of_source) v rest.1)

    by_quote : (v : Verdict) → Parts (quote_refusals t.softwire quote) (receivers ++ after) v → P v
    by_quote v (inl first) = own_refused (quote_refusals t.softwire quote) v refl first
    by_quote v (inr rest) =
        let from =
        so_behind (quote_refusals t.softwire quote) (quote.src6 == t.softwire.aftr.0) rest.0 (λ other. simp (other, or_true)) in
        by_receiver v (eqb-true _ _ from) (parted receivers after v rest.1)

    quote_own : (v : Verdict) → verdict_in (quote_lines t error.kind error.word (Ok quote)) ≡ Some v → P v
    quote_own v is = by_quote v (parted (quote_refusals t.softwire quote) (receivers ++ after) v is)

  error_own : dst.0 ≡ t.softwire.aftr.0 → (v : Verdict) → verdict_in (error_lines t (icmp6_of src.0 dst.0 message)) ≡ Some v → P v
  error_own ours v is = by_message (icmp6_of src.0 dst.0 message) refl is
    where
      by_quoted : (m : Message6) → icmp6_of src.0 dst.0 message ≡ Ok m → (r : Result TunnelQuote QuoteBad) → quote_of m.rest ≡ r →
          verdict_in (quote_lines t m.kind m.word r) ≡ Some v → P v
      by_quoted m read (Ok quote) quoted first = quote_own ours m read quote quoted v first
      by_quoted m read (Err refusal) quoted first = own_refused (quote_lines t m.kind m.word (Err refusal)) v refl first

      by_message : (r : Result Message6 IcmpBad) → icmp6_of src.0 dst.0 message ≡ r → verdict_in (error_lines t r) ≡ Some v → P v
      by_message (Ok m) read first = by_quoted m read (quote_of m.rest) refl first
      by_message (Err refusal) read first = own_refused (error_lines t (Err refusal)) v refl first

  message_by : (v : Verdict) → Parts (message_refusals t.softwire dst message) (error_lines t (icmp6_of src.0 dst.0 message)) v → P v
  message_by v (inl first) = own_refused (message_refusals t.softwire dst message) v refl first
  message_by v (inr rest) =
      let ours = so_behind (message_refusals t.softwire dst message) (dst.0 == t.softwire.aftr.0) rest.0 (λ other. simp (other, or_true)) in
      error_own (eqb-true _ _ ours) v rest.1

  pub message_own : (v : Verdict) → verdict_in (lines t (item.Icmp6 src dst message)) ≡ Some v → P v
  message_own v is = message_by v (parted (message_refusals t.softwire dst message) (error_lines t (icmp6_of src.0 dst.0 message)) v is)

-- a message that nothing keeps back is passed on
relay_decides : (t : BindingTable) (kind word : ℕ) (quote : TunnelQuote) (is_ours : Bool) (end : Option V6) →
    (is_ours ≡ true → end ≡ None → ⊥) → gets_answer quote.inner ≡ true →
    (way : Path) × (verdict_in (relay_lines t.softwire kind word quote is_ours end) ≡ Some (relayed t.softwire kind word way))
relay_decides t kind word quote true None found loud = absurd (found refl refl)
relay_decides t kind word quote false None found loud = (path.Plain, rw loud refl)
relay_decides t kind word quote true (Some to) found loud = (path.Tunnel t.softwire.hop_limit t.softwire.aftr to, rw loud refl)
relay_decides t kind word quote false (Some to) found loud = (path.Tunnel t.softwire.hop_limit t.softwire.aftr to, rw loud refl)

pub relays_all : (t : BindingTable) (i : Item) (v : Verdict) → verdict_in (lines t i) ≡ Some v → RelaysAll t i v
relays_all t (item.Icmp6 src dst message) v is = λ permitted error found loud.
    let quote = permitted.quote in
    let kind = permitted.error.kind in
    let word = permitted.error.word in
    let after = relay_lines t.softwire kind word quote (is_bound_address t quote.inner.src) (owner_end t quote.inner.src (quoted_source quote)) in
    let receivers = receiver_lines quote (owner_end t quote.inner.dst (quoted_destination quote)) in
    let decided = relay_decides t kind word quote (is_bound_address t quote.inner.src) (owner_end t quote.inner.src (quoted_source quote)) found loud in
    let ours : (dst.0 == t.softwire.aftr.0) ≡ true = eq-eqb dst.0 t.softwire.aftr.0 permitted.ours in
    let from : (quote.src6 == t.softwire.aftr.0) ≡ true = eq-eqb quote.src6 t.softwire.aftr.0 permitted.from in
    let sent_to : ends_at (owner_end t quote.inner.dst (quoted_destination quote)) quote.dst6 ≡ true =
    owner_ends t quote.inner.dst (quoted_destination quote) permitted.want quote.dst6 permitted.key permitted.receiver in
    let at_message : verdict_in (lines t (item.Icmp6 src dst message)) ≡ verdict_in (error_lines t (icmp6_of src.0 dst.0 message)) =
    decided_behind (message_refusals t.softwire dst message) (error_lines t (icmp6_of src.0 dst.0 message)) (rw (ours, error) refl) in
    let at_quote : verdict_in (error_lines t (icmp6_of src.0 dst.0 message)) ≡ verdict_in (quote_lines t kind word (Ok quote)) =
    ap (λ r. verdict_in (error_lines t r)) permitted.read ∙ ap (λ r. verdict_in (quote_lines t kind word r)) permitted.quoted in
    let at_receiver : verdict_in (quote_lines t kind word (Ok quote)) ≡ verdict_in (receivers ++ after) =
    decided_behind (quote_refusals t.softwire quote) (receivers ++ after) (rw from refl) in
    let at_relay : verdict_in (receivers ++ after) ≡ verdict_in after = decided_behind receivers after (rw sent_to refl) in
    let both : ◌≡◌ {A = Option Verdict} (Some v) (Some (relayed t.softwire kind word decided.0)) = sym is ∙ (at_message ∙ (at_quote ∙ (at_receiver ∙ (at_relay ∙ decided.1)))) in
    let same : v ≡ relayed t.softwire kind word decided.0 = cc in
    (decided.0, same)
relays_all t (item.Up outer inner) v is = tt
relays_all t (item.Down packet) v is = tt
relays_all t (item.OtherIp6 dst) v is = tt
relays_all t item.Held v is = tt
relays_all t (item.Bad why) v is = tt
