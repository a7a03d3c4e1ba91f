-- What a reply is read as.
use Rattle.std.proofs.Common.{◌≡◌, ℕ, ◌-◌, ◌/◌, ◌<◌, ◌^◌, Bool, false, List, [], ◌∷◌, ◌++◌, length, drop, take, Option, Some, None, Ok, refl, sym, ◌∙◌, ap, subst, arith}
use Rattle.std.specs.Prelude.{if◌then◌else◌, option_and_then, Result}
use Rattle.std.proofs.lemmas.Bool.{le-ltb}
use Rattle.std.proofs.lemmas.List.{length-take}
use Rattle.aftr_base.proofs.FirstLemmas.{first_true-Ok}
use Rattle.aftr_base.proofs.SumLemmas.{checksum-sealed}
use Rattle.aftr_base.specs.Numbers.{big_endian, span}
use Rattle.aftr_base.specs.declared.numbers.V4.{V4}
use Rattle.aftr_base.specs.declared.numbers.V6.{V6}
use Rattle.icmp_codec.specs.Message4.{Message4, is_echo, message_head}
use Rattle.icmp_codec.specs.Message6.{Message6, checksum6, icmp6_bytes, icmp6_of, made_message6, message_fields6, message_refusals6, pseudo_header}
use Rattle.icmp_codec.specs.Quoted.{EmbeddedPacket, embedded_fields, embedded_of}
use Rattle.icmp_codec.specs.declared.message4.IcmpBad.{IcmpBad}
use Rattle.icmp_errors.proofs.QuoteLemmas.{embedded_of-packet, error4-tells}
use Rattle.icmp_errors.specs.Answers.{about}
use Rattle.icmp_errors.specs.Errors4.{error4, error_head, most_quoted}
use Rattle.icmp_errors.specs.Policy6.{most_quoted6, policy6, quoted_head}
use Rattle.icmp_relay.specs.Quotes.{TunnelQuote, quote_fields, quote_of, quote_refusals, tunnel_len}
use Rattle.ip_codec.proofs.Laws.{ip4_of-alone}
use Rattle.ip_codec.specs.Packet4.{header_len_of, made4, whole4}
use Rattle.ip_codec.specs.Packet6.{bytes6}
use Rattle.ip_codec.specs.declared.items.Item.{Item}
use Rattle.ip_codec.specs.declared.items.Item.TheVariants as item
use Rattle.ip_codec.specs.declared.items.Outer.{Outer}
use Rattle.softwire_encap.proofs.PlaceLemmas.{tunnel_stands}
use Rattle.packet_render.specs.Replies.{GoesBy, IsInRange, SaysWhy, TellsEnd, TellsItsSource, TellsOne, TellsPolicyTo, TellsQuotedSource}
use Rattle.packet_render.specs.Sent.{along, if_ok, made_of, packet_of_item, policies, quote_of_item, relayed_bytes, replies}
use Rattle.packet_render.specs.WhatCame.{AreBytes, CarriesBytes}
use Rattle.verdict_core.specs.Fitting.{FitsReply}
use Rattle.verdict_core.specs.declared.verdicts.Path.{Path}
use Rattle.verdict_core.specs.declared.verdicts.Path.TheVariants as path
use Rattle.verdict_core.specs.declared.verdicts.Reply.{Reply}
use Rattle.verdict_core.specs.declared.verdicts.Reply.TheVariants as reply
use Rattle.packet_render.proofs.ByteLemmas.{bytes_dropped, bytes_taken, four_bytes}
use Rattle.packet_render.proofs.CameLemmas.{item_bytes, made_is}

-- ---- by a way
goes_by : (way : Path) (error : List ℕ) → GoesBy way error (along way error)
goes_by path.Plain error = refl
goes_by (path.Tunnel limit from to) error = tunnel_stands from to limit error

abbrev told_message : ℕ → ℕ → ℕ → List ℕ → Option EmbeddedPacket → Message4
told_message kind code word quote embedded = record { kind = kind; code = code; id = word / 65536; word = word; rest = quote; embedded = embedded }

tells_one : (own : V4) (to kind code word : ℕ) (packet : List ℕ) (quoted : EmbeddedPacket) (way : Path) → own.0 < 2 ^ 32 → to < 2 ^ 32 → word < 2 ^ 32 → is_echo kind ≡ false →
    embedded_of packet ≡ Some quoted → TellsOne own to kind code word packet way (along way (error4 own (record { 0 = to }) kind code word packet) ∷ [])
tells_one own to kind code word packet quoted way own_fits to_fits fits error is =
    let says = error4-tells own (record { 0 = to }) kind code word packet quoted own_fits to_fits fits error is in
    record {
      bytes = along way (error4 own (record { 0 = to }) kind code word packet);
      error = error4 own (record { 0 = to }) kind code word packet;
      only = refl;
      by = goes_by way (error4 own (record { 0 = to }) kind code word packet);
      found = made4 (error_head own (record { 0 = to })) [] says.message;
      read = says.outer;
      source = refl;
      destination = refl;
      protocol = refl;
      message = told_message kind code word (take most_quoted packet) (Some (record quoted { payload = take (most_quoted - header_len_of packet) quoted.payload }));
      told = says.inner;
      its_type = refl;
      its_code = refl;
      its_word = refl;
      quotes = refl;
    }

-- ---- about the item's own packet
tells_source : (i : Item) (own : V4) (kind code word : ℕ) (way : Path) → is_echo kind ≡ false → CarriesBytes i → own.0 < 2 ^ 32 → word < 2 ^ 32 →
    TellsItsSource i own kind code word way (made_of (packet_of_item i) (λ p. along way (error4 own (record { 0 = p.src }) kind code word (p.header ++ p.payload)) ∷ []))
tells_source i own kind code word way error are own_fits fits = λ p has.
    subst (λ (list : List (List ℕ)). TellsOne own p.src kind code word (whole4 p) way list)
    (sym (made_is i p has (λ q. along way (error4 own (record { 0 = q.src }) kind code word (q.header ++ q.payload)) ∷ [])))
    (tells_one own p.src kind code word (p.header ++ p.payload) (about p) way own_fits (item_bytes i p are has).src fits error
    (embedded_of-packet p (ip4_of-alone has.0 p has.2)))

-- ---- the policy
-- the message sums up with its pseudo-header
policy_read : (src dst : ℕ) (quote : List ℕ) → icmp6_of src dst (icmp6_bytes src dst 1 5 0 quote) ≡ Ok (made_message6 1 5 0 quote)
policy_read src dst quote =
    let sum : checksum6 src dst (icmp6_bytes src dst 1 5 0 quote) ≡ 0 =
    checksum-sealed (pseudo_header src dst (length (message_head 1 5 0 ++ quote)) ++ (message_head 1 5 0 ++ quote)) 42 refl (omega arith) in
    rw (le-ltb (length (icmp6_bytes src dst 1 5 0 quote)) 8 (omega arith), sum) refl

tells_policy : (from to : V6) (limit : ℕ) (outer : Outer) (inner : List ℕ) → TellsPolicyTo from to limit outer inner (policy6 from to limit outer inner ∷ [])
tells_policy from to limit outer inner =
    let front = take most_quoted6 (bytes6 (quoted_head outer) inner) in
    record {
      bytes = policy6 from to limit outer inner;
      only = refl;
      error = icmp6_bytes from.0 to.0 1 5 0 front;
      stands = record { first_word = refl; payload_length = refl; next_header = refl; hop_limit = refl; source = refl; destination = refl; behind = refl };
      message = made_message6 1 5 0 front;
      told = policy_read from.0 to.0 front;
      its_type = refl;
      its_code = refl;
      came = bytes6 (quoted_head outer) inner;
      about = record { first_word = refl; payload_length = refl; next_header = refl; hop_limit = refl; source = refl; destination = refl; behind = refl };
      quotes = refl;
    }

-- ---- passed on
quoted_is : (bytes : List ℕ) (q : TunnelQuote) → quote_of bytes ≡ Ok q → embedded_of q.packet ≡ Some q.inner
quoted_is bytes q is =
    let packet = drop (tunnel_len bytes) bytes in
    let spelt = first_true-Ok (quote_refusals bytes) (quote_fields bytes packet) q is in
    let whole : embedded_of packet ≡ Some (embedded_fields packet) = ap (λ (b : Bool). if b then None else Some (embedded_fields packet)) spelt.0.1.0 in
    subst (λ (x : TunnelQuote). embedded_of x.packet ≡ Some x.inner) spelt.1 whole

pub quote_made : (src dst : V6) (bytes : List ℕ) (m : Message6) (q : TunnelQuote) → icmp6_of src.0 dst.0 bytes ≡ Ok m → quote_of m.rest ≡ Ok q →
    quote_of_item (item.Icmp6 src dst bytes) ≡ Some q
quote_made src dst bytes m q read quoted =
    ap (λ (r : Result Message6 IcmpBad). option_and_then (λ x. if_ok (quote_of x.rest)) (if_ok r)) read ∙ ap if_ok quoted

-- the source of the quoted packet is read from four of the message's bytes
quoted_source_small : (bytes rest : List ℕ) (q : TunnelQuote) → AreBytes bytes → rest ≡ drop 8 bytes → quote_of rest ≡ Ok q → q.inner.src < 2 ^ 32
quoted_source_small bytes rest q are is quoted =
    let packet = drop (tunnel_len rest) rest in
    let spelt = first_true-Ok (quote_refusals rest) (quote_fields rest packet) q quoted in
    let them : AreBytes rest = subst AreBytes (sym is) (bytes_dropped 8 bytes are) in
    let small : big_endian (span packet 12 4) < 2 ^ 32 =
    four_bytes (span packet 12 4) (bytes_taken 4 (drop 12 packet) (bytes_dropped 12 packet (bytes_dropped (tunnel_len rest) rest them))) (omega (arith, length-take 4 (drop 12 packet))) in
    subst (λ (x : TunnelQuote). x.inner.src < 2 ^ 32) spelt.1 small

message_rest : (src dst : ℕ) (bytes : List ℕ) (m : Message6) → icmp6_of src dst bytes ≡ Ok m → m.rest ≡ drop 8 bytes
message_rest src dst bytes m read =
    let spelt = first_true-Ok (message_refusals6 src dst bytes) (message_fields6 bytes) m read in
    sym (ap (λ (x : Message6). x.rest) spelt.1)

tells_quoted : (src dst : V6) (message : List ℕ) (own : V4) (code mtu : ℕ) (way : Path) → AreBytes message → own.0 < 2 ^ 32 → mtu < 2 ^ 32 →
    TellsQuotedSource (item.Icmp6 src dst message) own code mtu way
    (made_of (quote_of_item (item.Icmp6 src dst message)) (λ q. along way (relayed_bytes own code mtu q) ∷ []))
tells_quoted src dst message own code mtu way are own_fits mtu_fits = λ m q read quoted.
    subst (λ (list : List (List ℕ)). TellsOne own q.inner.src 3 code mtu q.packet way list)
    (sym (ap (λ (o : Option TunnelQuote). made_of o (λ x. along way (relayed_bytes own code mtu x) ∷ [])) (quote_made src dst message m q read quoted)))
    (tells_one own q.inner.src 3 code mtu q.packet q.inner way own_fits
    (quoted_source_small message m.rest q are (message_rest src.0 dst.0 message m read) quoted) mtu_fits refl (quoted_is m.rest q quoted))

-- ---- each reply
tells_end : (i : Item) (from to : V6) (limit : ℕ) → FitsReply i (reply.Policy from to limit) → TellsEnd i from to limit (replies i (reply.Policy from to limit))
tells_end (item.Up outer inner) from to limit fits = λ p has.
    subst (λ (list : List (List ℕ)). TellsPolicyTo from to limit outer (whole4 p) list) (sym (made_is (item.Up outer inner) p has (policies (item.Up outer inner) from to limit)))
    (tells_policy from to limit outer (whole4 p))
tells_end (item.Down packet) from to limit fits = absurd fits.0
tells_end (item.OtherIp6 dst) from to limit fits = absurd fits.0
tells_end (item.Icmp6 src dst message) from to limit fits = absurd fits.0
tells_end item.Held from to limit fits = absurd fits.0
tells_end (item.Bad why) from to limit fits = absurd fits.0

tells_relayed : (i : Item) (own : V4) (code mtu : ℕ) (way : Path) → FitsReply i (reply.Relay own code mtu way) → CarriesBytes i → own.0 < 2 ^ 32 → mtu < 2 ^ 16 →
    TellsQuotedSource i own code mtu way (replies i (reply.Relay own code mtu way))
tells_relayed (item.Icmp6 src dst message) own code mtu way fits are own_fits mtu_fits = tells_quoted src dst message own code mtu way are own_fits (omega (arith, mtu_fits))
tells_relayed (item.Up outer inner) own code mtu way fits are own_fits mtu_fits = absurd fits.0
tells_relayed (item.Down packet) own code mtu way fits are own_fits mtu_fits = absurd fits.0
tells_relayed (item.OtherIp6 dst) own code mtu way fits are own_fits mtu_fits = absurd fits.0
tells_relayed item.Held own code mtu way fits are own_fits mtu_fits = absurd fits.0
tells_relayed (item.Bad why) own code mtu way fits are own_fits mtu_fits = absurd fits.0

pub says_why : (i : Item) (told : Reply) → FitsReply i told → CarriesBytes i → IsInRange told → SaysWhy i told (replies i told)
says_why i reply.Silent fits are range = refl
says_why i (reply.Unreachable own way) fits are range = tells_source i own 3 1 0 way refl are range (omega arith)
says_why i (reply.TooBig own mtu way) fits are range = tells_source i own 3 4 mtu way refl are range.0 (omega (arith, range.1))
says_why i (reply.Exceeded own way) fits are range = tells_source i own 11 0 0 way refl are range (omega arith)
says_why i (reply.Policy from to limit) fits are range = tells_end i from to limit fits
says_why i (reply.Relay own code mtu way) fits are range = tells_relayed i own code mtu way fits are range.0 range.1
