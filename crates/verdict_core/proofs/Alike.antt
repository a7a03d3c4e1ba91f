-- Two tables that are alike for an item have the same lines for it.
use Rattle.std.proofs.Common.{◌≡◌, ℕ, ◌==◌, inl, inr, true, List, ◌++◌, Result, Ok, Err, refl, ap}
use Rattle.std.specs.Prelude.{unwrap_or}
use Rattle.std.proofs.lemmas.Bool.{and_parts, eqb-true}
use Rattle.binding_rules.specs.Bindings.{bound, is_bound, owns}
use Rattle.binding_rules.specs.Tables.{BindingTable, IsLawful}
use Rattle.binding_rules.specs.declared.binding.Binding.{Binding}
use Rattle.binding_rules.specs.declared.binding.Want.{Want}
use Rattle.binding_rules.specs.declared.settings.Softwire.{Softwire}
use Rattle.icmp_codec.specs.Message6.{Message6, icmp6_of}
use Rattle.icmp_codec.specs.declared.message4.IcmpBad.{IcmpBad}
use Rattle.icmp_relay.specs.Quotes.{TunnelQuote, quote_of}
use Rattle.icmp_relay.specs.declared.quotes.QuoteBad.{QuoteBad}
use Rattle.ip_codec.specs.Packet4.{Packet4, ip4_of}
use Rattle.ip_codec.specs.declared.items.Item.{Item}
use Rattle.ip_codec.specs.declared.items.Item.TheVariants as item
use Rattle.ip_codec.specs.declared.items.Outer.{Outer}
use Rattle.ip_codec.specs.declared.packet4.Ip4Bad.{Ip4Bad}
use Rattle.port_locate.specs.Keys.{downstream_key, upstream_key}
use Rattle.port_locate.specs.declared.keys.Key.{Key}
use Rattle.port_locate.specs.declared.keys.Key.TheVariants as key
use Rattle.table_words.specs.Answers.{first_b4}
use Rattle.verdict_core.specs.Lines.{Line, verdict_in}
use Rattle.verdict_core.specs.Others.{AreAlikeAt, AreAlikeFor}
use Rattle.verdict_core.specs.Verdicts.{down_lines, down_refusals, down_ways, error_lines, hairpin_lines, is_bound_address, lines, message_refusals, onward_refusals, outward_lines, owner_end, quote_lines, quote_refusals, quoted_destination, quoted_source, receiver_lines, relay_lines, sender_lines, six_lines, up_lines, up_refusals, verdict_of}
use Rattle.verdict_core.specs.declared.verdicts.Verdict.TheVariants as verdict
use Rattle.verdict_core.proofs.Members.{IsIn, any_found, any_of, filter_came, filter_keeps, same_one, same_test}

-- What the table says of an address depends on the set of bindings that have it.
module _ (t u : BindingTable) (lawful : IsLawful t) (lawful_too : IsLawful u) (a : ℕ) (same : AreAlikeAt a t u) where
  there : (w : Want) (b : Binding) → IsIn (bound t.bindings (record { 0 = a }) w) b → IsIn (bound u.bindings (record { 0 = a }) w) b
  there w b found =
      let came = filter_came (is_bound (record { 0 = a }) w) t.bindings b found.0 found.1 in
      let address = eqb-true b.v4.0 a (and_parts (b.v4.0 == a) (owns w b) came.passes).0 in
      let other = (same b address).0 came.there in
      filter_keeps (is_bound (record { 0 = a }) w) u.bindings b other.0 other.1 came.passes

  back : (w : Want) (b : Binding) → IsIn (bound u.bindings (record { 0 = a }) w) b → IsIn (bound t.bindings (record { 0 = a }) w) b
  back w b found =
      let came = filter_came (is_bound (record { 0 = a }) w) u.bindings b found.0 found.1 in
      let address = eqb-true b.v4.0 a (and_parts (b.v4.0 == a) (owns w b) came.passes).0 in
      let other = (same b address).1 came.there in
      filter_keeps (is_bound (record { 0 = a }) w) t.bindings b other.0 other.1 came.passes

  bound_alike : (w : Want) → bound t.bindings (record { 0 = a }) w ≡ bound u.bindings (record { 0 = a }) w
  bound_alike w =
      same_one (bound t.bindings (record { 0 = a }) w) (bound u.bindings (record { 0 = a }) w)
      (lawful.at_most_one (record { 0 = a }) w) (lawful_too.at_most_one (record { 0 = a }) w) (there w) (back w)

  pub owner_alike : (k : Key) → owner_end t a k ≡ owner_end u a k
  owner_alike (key.At want) = ap (λ (bs : List Binding). first_b4 bs) (bound_alike want)
  owner_alike key.NoPort = refl
  owner_alike key.IcmpBad = refl

  found_too : is_bound_address t a ≡ true → is_bound_address u a ≡ true
  found_too is =
      let found = any_found (λ b. b.v4.0 == a) t.bindings is in
      let other = (same found.0 (eqb-true found.0.v4.0 a found.1.passes)).0 found.1.there in
      any_of (λ b. b.v4.0 == a) u.bindings found.0 other.0 other.1 found.1.passes

  found_back : is_bound_address u a ≡ true → is_bound_address t a ≡ true
  found_back is =
      let found = any_found (λ b. b.v4.0 == a) u.bindings is in
      let other = (same found.0 (eqb-true found.0.v4.0 a found.1.passes)).1 found.1.there in
      any_of (λ b. b.v4.0 == a) t.bindings found.0 other.0 other.1 found.1.passes

  pub address_alike : is_bound_address t a ≡ is_bound_address u a
  address_alike = same_test (is_bound_address t a) (is_bound_address u a) found_too found_back

module _ (t u : BindingTable) (lawful : IsLawful t) (lawful_too : IsLawful u) (s : t.softwire ≡ u.softwire) where
  down_alike : (p : Packet4) → owner_end t p.dst (downstream_key p) ≡ owner_end u p.dst (downstream_key p) → down_lines t (Ok p) ≡ down_lines u (Ok p)
  down_alike p e = λ j. down_refusals (s j) p (downstream_key p) ++ down_ways (s j) p (e j)

  down_by : (bytes : List ℕ) (r : Result Packet4 Ip4Bad) → ip4_of bytes ≡ r →
      ((a : ℕ) → (p : Packet4) × ((ip4_of bytes ≡ Ok p) × (p.dst ≡ a)) → AreAlikeAt a t u) → down_lines t r ≡ down_lines u r
  down_by bytes (Ok p) read same = down_alike p (owner_alike t u lawful lawful_too p.dst (same p.dst (p, (read, refl))) (downstream_key p))
  down_by bytes (Err why) read same = refl

  up_alike : (outer : Outer) (p : Packet4) → AreAlikeAt p.src t u → AreAlikeAt p.dst t u →
      up_lines t outer (Ok p) ≡ up_lines u outer (Ok p)
  up_alike outer p from to =
      let sender = owner_alike t u lawful lawful_too p.src from (upstream_key p) in
      let receiver = owner_alike t u lawful lawful_too p.dst to (downstream_key p) in
      let bound = address_alike t u lawful lawful_too p.dst to in
      λ j. (up_refusals (s j) outer p (upstream_key p) ++ sender_lines (s j) outer (sender j))
      ++ (onward_refusals (s j) outer p ++ (hairpin_lines (s j) outer p (bound j) (receiver j) ++ outward_lines (s j) outer p))

  up_by : (outer : Outer) (inner : List ℕ) (r : Result Packet4 Ip4Bad) → ip4_of inner ≡ r →
      ((p : Packet4) → ip4_of inner ≡ Ok p → (AreAlikeAt p.src t u) × (AreAlikeAt p.dst t u)) →
      up_lines t outer r ≡ up_lines u outer r
  up_by outer inner (Ok p) read same = up_alike outer p (same p read).0 (same p read).1
  up_by outer inner (Err why) read same = λ j. up_lines (record t { softwire = s j }) outer (Err why)

  quote_by : (kind word : ℕ) (r : Result TunnelQuote QuoteBad) →
      ((q : TunnelQuote) → r ≡ Ok q → (AreAlikeAt q.inner.src t u) × (AreAlikeAt q.inner.dst t u)) →
      quote_lines t kind word r ≡ quote_lines u kind word r
  quote_by kind word (Err why) same = refl
  quote_by kind word (Ok q) same =
      let both = same q refl in
      let receiver = owner_alike t u lawful lawful_too q.inner.dst both.1 (quoted_destination q) in
      let sender = owner_alike t u lawful lawful_too q.inner.src both.0 (quoted_source q) in
      let bound = address_alike t u lawful lawful_too q.inner.src both.0 in
      λ j. quote_refusals (s j) q ++ (receiver_lines q (receiver j) ++ relay_lines (s j) kind word q (bound j) (sender j))

  error_by : (r : Result Message6 IcmpBad) →
      ((m : Message6) → r ≡ Ok m → (q : TunnelQuote) → quote_of m.rest ≡ Ok q →
      (AreAlikeAt q.inner.src t u) × (AreAlikeAt q.inner.dst t u)) →
      error_lines t r ≡ error_lines u r
  error_by (Err why) same = refl
  error_by (Ok m) same = quote_by m.kind m.word (quote_of m.rest) (λ q read. same m refl q read)

pub lines_alike : (t u : BindingTable) (i : Item) → IsLawful t → IsLawful u → AreAlikeFor i t u → lines t i ≡ lines u i
lines_alike t u item.Held lawful lawful_too alike = refl
lines_alike t u (item.Bad why) lawful lawful_too alike = refl
lines_alike t u (item.Down bytes) lawful lawful_too alike = down_by t u lawful lawful_too alike.settings bytes (ip4_of bytes) refl (λ a named. alike.bindings a named)
lines_alike t u (item.Up outer inner) lawful lawful_too alike =
    up_by t u lawful lawful_too alike.settings outer inner (ip4_of inner) refl
    (λ p read. (alike.bindings p.src (p, (read, inl refl)), alike.bindings p.dst (p, (read, inr refl))))
lines_alike t u (item.OtherIp6 dst) lawful lawful_too alike = ap (λ (s : Softwire). six_lines s dst) alike.settings
lines_alike t u (item.Icmp6 src dst bytes) lawful lawful_too alike =
    let errors = error_by t u lawful lawful_too alike.settings (icmp6_of src.0 dst.0 bytes)
    (λ m intact q read. (alike.bindings q.inner.src (m, (intact, (q, (read, inl refl)))), alike.bindings q.inner.dst (m, (intact, (q, (read, inr refl)))))) in
    λ j. message_refusals (alike.settings j) dst bytes ++ errors j

pub verdict_alike : (t u : BindingTable) (i : Item) → IsLawful t → IsLawful u → AreAlikeFor i t u → verdict_of t i ≡ verdict_of u i
verdict_alike t u i lawful lawful_too alike = ap (λ (ls : List Line). unwrap_or (verdict_in ls) verdict.Held) (lines_alike t u i lawful lawful_too alike)
