-- Each line tells what is due for its rule, and so does the one that decides.
use Rattle.std.proofs.Common.{◌≡◌, ℕ, ◌+◌, ◌-◌, ◌==◌, nat_lt, ◌&&◌, Bool, true, false, min, max, if◌then◌else◌, List, [], ◌∷◌, ◌++◌, Option, Some, None, Result, Ok, Err, refl, ap, sym, ◌∙◌, subst, arith}
use Rattle.std.proofs.lemmas.Bool.{and_parts, both_ways, eq-eqb, ltb-true, ne_eqb}
use Rattle.aftr_base.specs.declared.numbers.V6.{V6}
use Rattle.binding_rules.specs.Tables.{BindingTable, IsLawful}
use Rattle.binding_rules.specs.declared.settings.Softwire.{Softwire}
use Rattle.icmp_codec.specs.Message6.{Message6, icmp6_of}
use Rattle.icmp_codec.specs.declared.message4.IcmpBad.{IcmpBad}
use Rattle.icmp_errors.specs.Answers.{about, gets_answer, gets_answer6}
use Rattle.icmp_relay.specs.Quotes.{TunnelQuote, quote_of}
use Rattle.icmp_relay.specs.declared.quotes.QuoteBad.{QuoteBad}
use Rattle.ip_codec.specs.Packet4.{Packet4, ip4_of, packet_len}
use Rattle.ip_codec.specs.declared.items.Item.{Item}
use Rattle.ip_codec.specs.declared.items.Item.TheVariants as item
use Rattle.ip_codec.specs.declared.items.Outer.{Outer}
use Rattle.ip_codec.specs.declared.packet4.Ip4Bad.{Ip4Bad}
use Rattle.ip_codec.specs.declared.rules.Rule.{Rule}
use Rattle.ip_codec.specs.declared.rules.Rule.TheVariants as rule
use Rattle.port_locate.specs.Keys.{downstream_key}
use Rattle.verdict_core.specs.Answers.{inward, inward_room, is_too_large, no_owner, relayed_code, relayed_mtu, too_large, way_back, ways_to}
use Rattle.verdict_core.specs.Lines.{Line, verdict_in}
use Rattle.verdict_core.specs.Owners.{IsSubscriberAddress}
use Rattle.verdict_core.specs.Told.{IsDue, IsRelay, IsSizeLess, IsSizeTold, IsTold, TellsWhatIsDue, ToldDown, ToldMessage, ToldUp}
use Rattle.verdict_core.specs.Verdicts.{down_lines, down_refusals, down_ways, error_lines, hairpin_lines, is_bound_address, lines, message_refusals, outward_lines, owner_end, quote_lines, quoted_source, relay_ways, up_lines, verdict_of}
use Rattle.verdict_core.specs.declared.verdicts.Path.{Path}
use Rattle.verdict_core.specs.declared.verdicts.Path.TheVariants as path
use Rattle.verdict_core.specs.declared.verdicts.Reply.{Reply}
use Rattle.verdict_core.specs.declared.verdicts.Reply.TheVariants as reply
use Rattle.verdict_core.specs.declared.verdicts.Verdict.{Verdict}
use Rattle.verdict_core.specs.declared.verdicts.Verdict.TheVariants as verdict
use Rattle.verdict_core.proofs.Items.{some_verdict}
use Rattle.verdict_core.proofs.Permits.{one_packet}
use Rattle.verdict_core.proofs.Receivers.{address_bound, address_known, receiver_has, receiver_known}

-- P holds of the answer of each line that is true, where no line before it is
abbrev EachTrue : (Verdict → Type 0) → List Line → Type 0
EachTrue P [] = Unit {0}
EachTrue P (line ∷ ls) = (line.test ≡ true → P line.answer) × (line.test ≡ false → EachTrue P ls)

decides : (P : Verdict → Type 0) (ls : List Line) (v : Verdict) → EachTrue P ls → verdict_in ls ≡ Some v → P v
decides P [] v each is = absurd cc
decides P (line ∷ ls) v each is = by_test line.test refl (λ e first. decides P ls v (each.1 e) first) is
  where
    by_test : (b : Bool) → line.test ≡ b → (line.test ≡ false → verdict_in ls ≡ Some v → P v) → (if b then Some line.answer else verdict_in ls) ≡ Some v → P v
    by_test true e rest first = let this : line.answer ≡ v = cc in subst P this (each.0 e)
    by_test false e rest first = rest e first

told_if : (allowed : Bool) (error : Reply) → IsTold allowed error (if allowed then error else reply.Silent)
told_if true error = record { allows = λ _. refl; forbids = λ is. absurd cc }
told_if false error = record { allows = λ is. absurd cc; forbids = λ _. refl }

size_told : (s : Softwire) (way : Path) (p : Packet4) (size : ℕ) → is_too_large size p ≡ true →
    IsSizeTold s way p size (if gets_answer (about p) then reply.TooBig s.own size way else reply.Silent)
size_told s way p size is =
    let parts = and_parts p.df (nat_lt size (packet_len p)) is in
    record { larger = ltb-true size (packet_len p) parts.1; uncut = parts.0; tells = told_if (gets_answer (about p)) (reply.TooBig s.own size way) }

module _ (t : BindingTable) (lawful : IsLawful t) where
  tunnel_room : inward_room t.softwire + 40 ≡ t.softwire.mtu6
  tunnel_room = omega (arith, lawful.mtu6)

  -- ---- from the IPv4 network
  module _ (bytes : List ℕ) (p : Packet4) (read : ip4_of bytes ≡ Ok p) where
    abbrev Down : Verdict → Type 0
    Down v = TellsWhatIsDue t (item.Down bytes) v

    -- what is told of this packet is told of the item's packet
    down_is : (why : Rule) (told : Reply) → ToldDown t.softwire p why told → Down (verdict.Drop why told)
    down_is why told is = λ q its. subst (λ (x : Packet4). ToldDown t.softwire x why told) (one_packet bytes q p its read) is

    down_due : (end : Option V6) → EachTrue Down (down_refusals t.softwire p (downstream_key p) ++ down_ways t.softwire p end)
    down_due end = (
      λ _. down_is rule.ToSelf reply.Silent refl,
      λ _. (
        λ _. down_is rule.IcmpOff reply.Silent refl,
        λ _. (
          λ _. down_is rule.IcmpBad reply.Silent refl,
          λ _. (
            λ _. down_is rule.NoPort reply.Silent refl,
            λ _. (
              λ _. down_is rule.NoBinding _ (told_if (t.softwire.errors_down && gets_answer (about p)) (reply.Unreachable t.softwire.own path.Plain)),
              λ _. (
                λ _. down_is rule.Ttl _ (told_if (gets_answer (about p)) (reply.Exceeded t.softwire.own path.Plain)),
                λ _. (
                  λ is. down_is rule.TooBig _ (inward_room t.softwire, (tunnel_room, size_told t.softwire path.Plain p (inward_room t.softwire) is)),
                  λ _.
                      down_ends end,
                ),
              ),
            ),
          ),
        ),
      ),
    )
      where
        down_ends : (end : Option V6) → EachTrue Down (ways_to end (inward t.softwire false))
        down_ends None = tt
        down_ends (Some to) = (λ _. tt, λ _. tt)

  -- ---- from a subscriber
  module _ (outer : Outer) (inner : List ℕ) (p : Packet4) (read : ip4_of inner ≡ Ok p) where
    abbrev Up : Verdict → Type 0
    Up v = TellsWhatIsDue t (item.Up outer inner) v

    up_is : (why : Rule) (told : Reply) → ToldUp t outer p why told → Up (verdict.Drop why told)
    up_is why told is = λ q its. subst (λ (x : Packet4). ToldUp t outer x why told) (one_packet inner q p its read) is

    too_large_back : IsSubscriberAddress t p.dst → is_too_large (inward_room t.softwire) p ≡ true →
        Up (too_large t.softwire (inward_room t.softwire) (way_back t.softwire outer) p)
    too_large_back has is =
        up_is rule.TooBig _ (
          inward_room t.softwire,
          (
            record { inward = λ _. tunnel_room; outward = λ none. absurd (none has) },
            size_told t.softwire (way_back t.softwire outer) p (inward_room t.softwire) is,
          ),
        )

    too_large_out : (IsSubscriberAddress t p.dst → ⊥) → is_too_large t.softwire.mtu4 p ≡ true →
        Up (too_large t.softwire t.softwire.mtu4 (way_back t.softwire outer) p)
    too_large_out none is =
        up_is rule.TooBig _ (
          t.softwire.mtu4,
          (
            record { inward = λ has. absurd (none has); outward = λ _. refl },
            size_told t.softwire (way_back t.softwire outer) p t.softwire.mtu4 is,
          ),
        )

    unowned : Up (no_owner t.softwire rule.HairpinNoBinding (way_back t.softwire outer) p)
    unowned = up_is rule.HairpinNoBinding _ (told_if (t.softwire.errors_down && gets_answer (about p)) (reply.Unreachable t.softwire.own (way_back t.softwire outer)))

    onward_due : (ours : Bool) (end : Option V6) → is_bound_address t p.dst ≡ ours → owner_end t p.dst (downstream_key p) ≡ end →
        EachTrue Up (hairpin_lines t.softwire outer p ours end ++ outward_lines t.softwire outer p)
    onward_due true (Some to) known e = (
      λ _. up_is rule.HairpinOff reply.Silent refl,
      λ _. (
        λ is. absurd cc,
        λ _. (
          λ is. too_large_back (address_known t p.dst known) is,
          λ _.
              (λ _. tt, λ is. absurd cc),
        ),
      ),
    )
    onward_due true None known e = (
      λ _. up_is rule.HairpinOff reply.Silent refl,
      λ _.
          (λ _. unowned, λ is. absurd cc),
    )
    onward_due false None known e =
        let none : IsSubscriberAddress t p.dst → ⊥ = λ has. both_ways (is_bound_address t p.dst) known (address_bound t p.dst has) in (
          λ is. absurd cc,
          λ _. (
            λ is. absurd cc,
            λ _. (
              λ is. absurd cc,
              λ _. (
                λ _. up_is rule.ToSelf reply.Silent refl,
                λ _. (
                  λ is. too_large_out none is,
                  λ _.
                      (λ _. tt, λ is. absurd cc),
                ),
              ),
            ),
          ),
        )
    onward_due false (Some to) known e = absurd (both_ways (is_bound_address t p.dst) known (receiver_has t p (receiver_known t p to lawful e)))

    up_due : EachTrue Up (up_lines t outer (Ok p))
    up_due = (
      λ _. up_is rule.NotOurs reply.Silent refl,
      λ _. (
        λ _. up_is rule.IcmpBad reply.Silent refl,
        λ _. (
          λ _. up_is rule.NoPort reply.Silent refl,
          λ _. (
            λ _. up_is rule.NoBinding _ (told_if (t.softwire.errors_up && gets_answer6 outer.src.0) (reply.Policy t.softwire.aftr outer.src t.softwire.hop_limit)),
            λ _. (
              λ _. up_is rule.Ttl _ (told_if (gets_answer (about p)) (reply.Exceeded t.softwire.own (way_back t.softwire outer))),
              λ _.
                  onward_due (is_bound_address t p.dst) (owner_end t p.dst (downstream_key p)) refl refl,
            ),
          ),
        ),
      ),
    )

-- ---- errors that are passed on
size_less : (word : ℕ) → IsSizeLess word (min (max word 1280) 65575 - 40)
size_less word = record {
  common = λ least most. grind (arith, least, most);
  least = λ less. grind (arith, less);
  most = λ more. grind (arith, more);
}

is_relay : (s : Softwire) (kind word : ℕ) (way : Path) → IsRelay s kind word (reply.Relay s.own (relayed_code kind) (relayed_mtu kind word) way)
is_relay s kind word way = record {
  code = relayed_code kind;
  size = relayed_mtu kind word;
  way = way;
  is = refl;
  too_big = λ e.
      let two : (kind == 2) ≡ true = eq-eqb kind 2 e in (
        ap (λ (b : Bool). if b then 4 else 1) two,
        subst (IsSizeLess word) (sym (ap (λ (b : Bool). if b then min (max word 1280) 65575 - 40 else 0) two)) (size_less word),
      );
  other = λ ne.
      let two : (kind == 2) ≡ false = ne_eqb kind 2 ne in
      (ap (λ (b : Bool). if b then 4 else 1) two, ap (λ (b : Bool). if b then min (max word 1280) 65575 - 40 else 0) two);
}

module _ (t : BindingTable) (src dst : V6) (bytes : List ℕ) (m : Message6) (read : icmp6_of src.0 dst.0 bytes ≡ Ok m) where
  abbrev Passed : Verdict → Type 0
  Passed v = TellsWhatIsDue t (item.Icmp6 src dst bytes) v

  one_message : (x : Message6) → icmp6_of src.0 dst.0 bytes ≡ Ok x → m ≡ x
  one_message x its = let both : ◌≡◌ {A = Result Message6 IcmpBad} (Ok m) (Ok x) = sym read ∙ its in cc

  passed_is : (why : Rule) (told : Reply) → ToldMessage t.softwire m.kind m.word why told → Passed (verdict.Drop why told)
  passed_is why told is = λ x its. subst (λ (y : Message6). ToldMessage t.softwire y.kind y.word why told) (one_message x its) is

  quote_due : (r : Result TunnelQuote QuoteBad) → EachTrue Passed (quote_lines t m.kind m.word r)
  quote_due (Err why) = (λ _. passed_is rule.RelayBad reply.Silent refl, λ _. tt)
  quote_due (Ok q) = (
    λ _. passed_is rule.RelayBad reply.Silent refl,
    λ _. (
      λ _. passed_is rule.RelayNoBinding reply.Silent refl,
      λ _. (
        λ _. passed_is rule.RelayNoBinding reply.Silent refl,
        λ _. (
          λ _. passed_is rule.RelayMute reply.Silent refl,
          λ _.
              by_end (owner_end t q.inner.src (quoted_source q)),
        ),
      ),
    ),
  )
    where
      by_end : (end : Option V6) → EachTrue Passed (relay_ways t.softwire m.kind m.word end)
      by_end None = (λ _. passed_is rule.Relayed _ (is_relay t.softwire m.kind m.word path.Plain), λ _. tt)
      by_end (Some to) =
          (λ _. passed_is rule.Relayed _ (is_relay t.softwire m.kind m.word (path.Tunnel t.softwire.hop_limit t.softwire.aftr to)), λ is. absurd cc)

-- what cannot be read tells nothing of a packet
no_packet : (bytes : List ℕ) (why : Ip4Bad) → ip4_of bytes ≡ Err why → (p : Packet4) → ip4_of bytes ≡ Ok p → ⊥
no_packet bytes why bad p read = let both : ◌≡◌ {A = Result Packet4 Ip4Bad} (Ok p) (Err why) = sym read ∙ bad in absurd cc

no_message : (src dst : ℕ) (bytes : List ℕ) (why : IcmpBad) → icmp6_of src dst bytes ≡ Err why → (m : Message6) → icmp6_of src dst bytes ≡ Ok m → ⊥
no_message src dst bytes why bad m read = let both : ◌≡◌ {A = Result Message6 IcmpBad} (Ok m) (Err why) = sym read ∙ bad in absurd cc

-- whatever the verdict, what is due of something unread is due
unread : (t : BindingTable) (i : Item) (v : Verdict) → ((why : Rule) (told : Reply) → IsDue t i why told) → TellsWhatIsDue t i v
unread t i (verdict.Drop why told) is = is why told
unread t i (verdict.Outward mtu) is = tt
unread t i (verdict.Inward from to limit mtu back) is = tt
unread t i verdict.Held is = tt

by_down : (t : BindingTable) (bytes : List ℕ) (v : Verdict) (r : Result Packet4 Ip4Bad) → IsLawful t → ip4_of bytes ≡ r → verdict_in (down_lines t r) ≡ Some v →
    TellsWhatIsDue t (item.Down bytes) v
by_down t bytes v (Ok p) lawful read first =
    decides (λ w. TellsWhatIsDue t (item.Down bytes) w) (down_lines t (Ok p)) v (down_due t lawful bytes p read (owner_end t p.dst (downstream_key p))) first
by_down t bytes v (Err why) lawful read first = unread t (item.Down bytes) v (λ r told p its. absurd (no_packet bytes why read p its))

by_up : (t : BindingTable) (outer : Outer) (inner : List ℕ) (v : Verdict) (r : Result Packet4 Ip4Bad) → IsLawful t → ip4_of inner ≡ r → verdict_in (up_lines t outer r) ≡ Some v →
    TellsWhatIsDue t (item.Up outer inner) v
by_up t outer inner v (Ok p) lawful read first =
    decides (λ w. TellsWhatIsDue t (item.Up outer inner) w) (up_lines t outer (Ok p)) v (up_due t lawful outer inner p read) first
by_up t outer inner v (Err why) lawful read first = unread t (item.Up outer inner) v (λ r told p its. absurd (no_packet inner why read p its))

by_message : (t : BindingTable) (src dst : V6) (bytes : List ℕ) (v : Verdict) (r : Result Message6 IcmpBad) → icmp6_of src.0 dst.0 bytes ≡ r →
    verdict_in (message_refusals t.softwire dst bytes ++ error_lines t r) ≡ Some v → TellsWhatIsDue t (item.Icmp6 src dst bytes) v
by_message t src dst bytes v (Ok m) read first =
    decides (λ w. TellsWhatIsDue t (item.Icmp6 src dst bytes) w) (message_refusals t.softwire dst bytes ++ error_lines t (Ok m)) v (
      λ _. passed_is t src dst bytes m read rule.NotOurs reply.Silent refl,
      λ _.
          (λ _. passed_is t src dst bytes m read rule.NotSoftwire reply.Silent refl, λ _. quote_due t src dst bytes m read (quote_of m.rest)),
    ) first
by_message t src dst bytes v (Err why) read first = unread t (item.Icmp6 src dst bytes) v (λ r told m its. absurd (no_message src.0 dst.0 bytes why read m its))

by_six : (t : BindingTable) (dst : V6) (v : Verdict) → verdict_in (lines t (item.OtherIp6 dst)) ≡ Some v → TellsWhatIsDue t (item.OtherIp6 dst) v
by_six t dst v first = decides (λ w. TellsWhatIsDue t (item.OtherIp6 dst) w) (lines t (item.OtherIp6 dst)) v (λ _. refl, λ _. (λ _. refl, λ _. tt)) first

by_item : (t : BindingTable) (i : Item) (v : Verdict) → IsLawful t → verdict_in (lines t i) ≡ Some v → TellsWhatIsDue t i v
by_item t (item.Down bytes) v lawful first = by_down t bytes v (ip4_of bytes) lawful refl first
by_item t (item.Up outer inner) v lawful first = by_up t outer inner v (ip4_of inner) lawful refl first
by_item t (item.Icmp6 src dst bytes) v lawful first = by_message t src dst bytes v (icmp6_of src.0 dst.0 bytes) refl first
by_item t (item.OtherIp6 dst) v lawful first = by_six t dst v first
by_item t item.Held v lawful first = decides (λ w. TellsWhatIsDue t item.Held w) (lines t item.Held) v (λ _. tt, λ _. tt) first
by_item t (item.Bad why) v lawful first = decides (λ w. TellsWhatIsDue t (item.Bad why) w) (lines t (item.Bad why)) v (λ _. refl, λ _. tt) first

pub tells_what_is_due : (t : BindingTable) (i : Item) → IsLawful t → TellsWhatIsDue t i (verdict_of t i)
tells_what_is_due t i lawful = by_item t i (verdict_of t i) lawful (some_verdict t i)
