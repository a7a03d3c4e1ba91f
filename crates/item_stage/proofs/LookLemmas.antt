-- What a look at a few bytes says of all of them.
use Rattle.std.proofs.Common.{◌≡◌, ℕ, ◌+◌, ◌%◌, ◌≤◌, Bool, true, false, not, ◌||◌, ◌==◌, List, [], length, take, drop, refl, sym, ◌∙◌, ap, arith, Result, Ok, Err, slice_index, subst, Option, None}
use Rattle.std.specs.Prelude.{nat_lt}
use Rattle.std.proofs.lemmas.Bool.{le-ltb, eqb-true, or_parts}
use Rattle.std.proofs.lemmas.List.{length-append, length-take-le, take-append-drop, take_all}
use Rattle.capture_io.specs.Record.{nanoseconds}
use Rattle.capture_io.specs.declared.forms.Form.{Form}
use Rattle.capture_io.specs.declared.forms.Rec.{Rec}
use Rattle.aftr_base.proofs.FirstLemmas.{first_true-Ok}
use Rattle.aftr_base.specs.Numbers.{big_endian, span}
use Rattle.ip_codec.proofs.Laws.{fragment_bits, ip4_of-Ok, span-append}
use Rattle.ip_codec.specs.Packet4 as four
use Rattle.ip_codec.specs.Packet6 as six
use Rattle.ip_codec.specs.declared.items.Outer.{Outer}
use Rattle.ip_codec.specs.declared.packet4.Ip4Bad.{Ip4Bad}
use Rattle.ip_codec.specs.declared.packet6.Ip6Bad.{Ip6Bad}
use Rattle.ipv6_chain.specs.Chains.{chain_of, is_skipped}
use Rattle.ipv6_chain.specs.declared.headers.Start.TheVariants as start
use Rattle.item_stage.specs.Alone.{alone_of, item_of, Alone, Ready, Downstream, CutPart, Carries, Settled, Fragment, behind_headers, by_chain, from_network, from_tunnel, in_tunnel, is_piece, item_alone, needs_lane, outer_of}
use Rattle.item_stage.specs.Looks.{is_extension, is_uncut}
use Rattle.item_stage.specs.Marks.{entry_by, turning}
use Rattle.item_stage.specs.Turns.{turn, turn_of, turned}
use Rattle.item_stage.specs.declared.marks.Mark.{Mark}
use Rattle.item_stage.specs.declared.rows.Rows.{Rows}

-- what was read is a fragment
abbrev is_cut : Result four.Packet4 Ip4Bad → Bool
is_cut (Ok packet) = four.is_fragment packet
is_cut (Err why) = false

-- two bytes of a front
pub span_of_front : (count : ℕ) (bytes : List ℕ) (at : ℕ) → at + 2 ≤ length (take count bytes) → span (take count bytes) at 2 ≡ span bytes at 2
span_of_front count bytes at enough =
    sym (span-append (take count bytes) (drop count bytes) at 2 enough) ∙ ap (λ (l : List ℕ). span l at 2) (take-append-drop count bytes)

front_fits : (count : ℕ) (bytes : List ℕ) → length (take count bytes) ≤ length bytes
front_fits count bytes =
    omega (arith, length-append (take count bytes) (drop count bytes), ap (λ (l : List ℕ). length l) (take-append-drop count bytes))

pub front_uncut : (count : ℕ) (bytes : List ℕ) → is_uncut bytes ≡ true → is_cut (four.ip4_of (take count bytes)) ≡ false
front_uncut count bytes uncut = by_reading (four.ip4_of (take count bytes)) refl
  where
    by_reading : (read : Result four.Packet4 Ip4Bad) → four.ip4_of (take count bytes) ≡ read → is_cut read ≡ false
    by_reading (Ok packet) is =
        let front = take count bytes in
        let spells = ip4_of-Ok front packet is in
        let len = four.header_len_of front in
        let enough : 20 ≤ length bytes = omega (arith, spells.least, spells.order, spells.within, front_fits count bytes) in
        let many : nat_lt (length bytes) 20 ≡ false = le-ltb (length bytes) 20 enough in
        let none : (four.word bytes 6 % 16384 == 0) ≡ true = sym (ap (λ (few : Bool). few || (four.word bytes 6 % 16384 == 0)) many) ∙ uncut in
        let word_is : four.word (take len front) 6 ≡ four.word bytes 6 =
        ap big_endian (span_of_front len front 6 (omega (arith, length-take-le len front (omega (arith, spells.order, spells.within)), spells.least))
        ∙ span_of_front count bytes 6 (omega (arith, spells.least, spells.order, spells.within))) in
        ap four.is_fragment spells.is
        ∙ (ap (λ (w : ℕ). four.bit w 8192 || not (w % 8192 == 0)) word_is
        ∙ (fragment_bits (four.word bytes 6) ∙ ap not none))
    by_reading (Err why) is = refl

-- ---- from the IPv4 network
pub network_uncut : (bytes : List ℕ) → is_uncut bytes ≡ true → needs_lane (from_network (four.ip4_of bytes)) ≡ false
network_uncut bytes uncut =
    by_reading (four.ip4_of bytes) (ap (λ (l : List ℕ). is_cut (four.ip4_of l)) (sym (take_all (length bytes) bytes (omega arith))) ∙ front_uncut (length bytes) bytes uncut)
  where
    by_reading : (read : Result four.Packet4 Ip4Bad) → is_cut read ≡ false → needs_lane (from_network read) ≡ false
    by_reading (Ok packet) whole = rw (whole) refl
    by_reading (Err why) whole = refl

-- ---- in the tunnel
tunnel_uncut : (outer : Outer) (bytes : List ℕ) (read : Result four.Packet4 Ip4Bad) → is_cut read ≡ false → is_piece (in_tunnel outer bytes read) ≡ false
tunnel_uncut outer bytes (Ok packet) whole = rw (whole) refl
tunnel_uncut outer bytes (Err why) whole = refl

headers_uncut : (outer : Outer) (next : ℕ) (bytes : List ℕ) → (next ≡ 4 → is_cut (four.ip4_of bytes) ≡ false) → is_piece (behind_headers outer next bytes) ≡ false
headers_uncut outer next bytes whole = by_number (next == 4) refl
  where
    by_others : (message : Bool) → (next == 58) ≡ message → (next == 4) ≡ false → is_piece (behind_headers outer next bytes) ≡ false
    by_others true is other = rw (other, is) refl
    by_others false is other = rw (other, is) refl

    by_number : (inner : Bool) → (next == 4) ≡ inner → is_piece (behind_headers outer next bytes) ≡ false
    by_number true is = rw (is) (tunnel_uncut outer bytes (four.ip4_of bytes) (whole (eqb-true next 4 is)))
    by_number false is = by_others (next == 58) refl is

pub ends_at_once : (outer : Outer) (next : ℕ) (body : List ℕ) → is_extension next ≡ false →
    by_chain outer body (chain_of next body start.Packet) ≡ Carries (behind_headers outer next body)
ends_at_once outer next body other =
    let tests = or_parts (is_skipped next) (next == 44) other in
    rw (tests.0, tests.1) refl

pub tunnel_whole : (bytes : List ℕ) → is_extension (slice_index bytes 6) ≡ false → (slice_index bytes 6 ≡ 4 → is_uncut (drop 40 bytes) ≡ true) →
    needs_lane (from_tunnel (six.ip6_of bytes)) ≡ false
tunnel_whole bytes other uncut = by_reading (six.ip6_of bytes) refl
  where
    by_reading : (read : Result six.Packet6 Ip6Bad) → six.ip6_of bytes ≡ read → needs_lane (from_tunnel read) ≡ false
    by_reading (Ok packet) is =
        let packet_is : six.fields6 bytes ≡ packet = (first_true-Ok (six.refusals6 bytes) (six.fields6 bytes) packet is).1 in
        subst (λ (p : six.Packet6). needs_lane (from_tunnel (Ok p)) ≡ false) packet_is
        (ap needs_lane (ends_at_once (outer_of (six.fields6 bytes)) (slice_index bytes 6) (span bytes 40 (six.payload_len bytes)) other)
        ∙ headers_uncut (outer_of (six.fields6 bytes)) (slice_index bytes 6) (span bytes 40 (six.payload_len bytes))
        (λ four_is. front_uncut (six.payload_len bytes) (drop 40 bytes) (uncut four_is)))
    by_reading (Err why) is = refl

-- ---- what it does
pub stays : (rows : Rows) (time number : ℕ) (alone : Alone) → needs_lane alone ≡ false → turn_of rows time number alone ≡ turned rows [] (item_alone alone)
stays rows time number (Ready ready) none = refl
stays rows time number (Downstream key part) none = absurd cc
stays rows time number (CutPart outer key part) none = absurd cc
stays rows time number (Carries (Settled ready)) none = refl
stays rows time number (Carries (Fragment outer key part)) none = absurd cc

pub looked_at : (form : Form) (rows : Rows) (number : ℕ) (r : Rec) (slot : Option Mark) → slot ≡ None → needs_lane (alone_of form r.bytes) ≡ false →
    turning rows (entry_by (item_of form r.bytes) slot) ≡ turn form rows number r
looked_at form rows number r slot is_none none =
    ap (λ (o : Option Mark). turning rows (entry_by (item_of form r.bytes) o)) is_none
    ∙ sym (stays rows (nanoseconds form r.seconds r.fraction) number (alone_of form r.bytes) none)
