-- Lemmas on what an error quotes: the packet that it is about.
use Rattle.std.proofs.Common.{◌≡◌, ℕ, ◌+◌, ◌-◌, ◌*◌, ◌/◌, ◌%◌, ◌^◌, ◌<◌, ◌≤◌, Bool, not, false, true, ◌||◌, if◌then◌else◌, List, [], ◌++◌, length, take, drop, slice_index, Some, None, Ok, refl, sym, ◌∙◌, ap, arith, min}
use Rattle.std.proofs.lemmas.Bool.{eqb-true, le-ltb, ltb-false, not-false, or_parts}
use Rattle.std.proofs.lemmas.List.{get_or-take, get_or_append_left, length-append, length-take, length-take-le, take-append-drop}
use Rattle.std.proofs.Math.Seq.{drop-append_seam, take-append-add, take-append_seam}
use Rattle.aftr_base.specs.Numbers.{big_endian, span}
use Rattle.aftr_base.specs.Sums.{checksum}
use Rattle.aftr_base.specs.declared.numbers.V4.{V4}
use Rattle.icmp_codec.specs.Message4.{icmp4_bytes, is_echo}
use Rattle.icmp_codec.specs.Quoted.{EmbeddedPacket, embedded_fields, embedded_of, lacks_header}
use Rattle.icmp_codec.proofs.Laws.{icmp4_of-bytes}
use Rattle.ip_codec.specs.Packet4.{Packet4, fields4, header_len_of, ip4_of, made4}
use Rattle.ip_codec.proofs.Laws.{span-append}
use Rattle.ip_codec.proofs.Laws.{ip4_of-Ok, ip4_of-header4, ip4_of-shaped}
use Rattle.icmp_errors.specs.Answers.{about}
use Rattle.icmp_errors.specs.Errors4.{TellsOf, error4, error_head}

-- a header behind which as much of a payload stands as there is room for is not lacking
lacks_header-joined : (header more : List ℕ) → 20 ≤ length header → slice_index header 0 / 16 ≡ 4 → header_len_of header ≡ length header →
    checksum header ≡ 0 → lacks_header (header ++ more) ≡ false
lacks_header-joined header more least version len sum =
    let bytes = header ++ more in
    let first : slice_index bytes 0 ≡ slice_index header 0 = get_or_append_left header more 0 0 (omega arith) in
    let version_is : slice_index bytes 0 / 16 ≡ 4 = ap (λ n. n / 16) first ∙ version in
    let len_is : header_len_of bytes ≡ length header = ap (λ n. 4 * (n % 16)) first ∙ len in
    let whole : length bytes ≡ length header + length more = length-append header more in
    let front : take (length header) bytes ≡ header = take-append_seam header more in
    rw (
      le-ltb (length bytes) 20 (omega arith),
      version_is,
      len_is,
      le-ltb (length header) 20 least,
      le-ltb (length bytes) (length header) (omega arith),
      front,
      sum,
    ) refl

-- its fields are those of the header, and what stands behind it is its payload
embedded_fields-joined : (header more payload : List ℕ) → 20 ≤ length header → header_len_of header ≡ length header →
    embedded_fields (header ++ more) ≡ record (about (fields4 header payload)) { payload = more }
embedded_fields-joined header more payload least len =
    let first : slice_index (header ++ more) 0 ≡ slice_index header 0 = get_or_append_left header more 0 0 (omega arith) in
    let protocol_is : slice_index (header ++ more) 9 ≡ slice_index header 9 = get_or_append_left header more 0 9 (omega arith) in
    let offset_is : big_endian (span (header ++ more) 6 2) % 8192 ≡ big_endian (span header 6 2) % 8192 =
    ap (λ l. big_endian l % 8192) (span-append header more 6 2 (omega arith)) in
    let src_is : big_endian (span (header ++ more) 12 4) ≡ big_endian (span header 12 4) = ap big_endian (span-append header more 12 4 (omega arith)) in
    let dst_is : big_endian (span (header ++ more) 16 4) ≡ big_endian (span header 16 4) = ap big_endian (span-append header more 16 4 (omega arith)) in
    let payload_is : drop (header_len_of (header ++ more)) (header ++ more) ≡ more =
    ap (λ n. drop (4 * (n % 16)) (header ++ more)) first ∙ ap (λ n. drop n (header ++ more)) len ∙ drop-append_seam header more in
    λ i. record { protocol = protocol_is i; offset = offset_is i; src = src_is i; dst = dst_is i; payload = payload_is i }

-- what an error quotes of a packet: its header, and as much of its payload as there is room for
front-parts : (header payload : List ℕ) → length header ≤ 60 → take 548 (header ++ payload) ≡ header ++ take (548 - length header) payload
front-parts header payload most =
    let room : 548 ≡ length header + (548 - length header) = omega arith in
    ap (λ n. take n (header ++ payload)) room ∙ take-append-add header payload (548 - length header)

record HasHeader (bytes : List ℕ) : Type 0 where
  pub version : slice_index bytes 0 / 16 ≡ 4
  pub least : 20 ≤ header_len_of bytes
  pub within : header_len_of bytes ≤ length bytes
  pub sum : checksum (take (header_len_of bytes) bytes) ≡ 0

has_header : (bytes : List ℕ) → lacks_header bytes ≡ false → HasHeader bytes
has_header bytes is =
    let tests = or_parts _ _ is in
    let others = or_parts _ _ tests.0 in
    let lengths = or_parts _ _ others.0 in
    let first = or_parts _ _ lengths.0 in
    record {
      version = eqb-true _ _ (not-false _ first.1);
      least = ltb-false _ _ lengths.1;
      within = ltb-false _ _ others.1;
      sum = eqb-true _ _ (not-false _ tests.1);
    }

quoted_parts : (lacks : Bool) (packet quoted : EmbeddedPacket) → (if lacks then None else Some packet) ≡ Some quoted →
    (lacks ≡ false) × (packet ≡ quoted)
quoted_parts true packet quoted is = absurd cc
quoted_parts false packet quoted is = (refl, cc)

-- the front of a quote quotes the same packet, with less of its payload
embedded_of-front : (bytes : List ℕ) (quoted : EmbeddedPacket) → embedded_of bytes ≡ Some quoted →
    (lacks_header (take 548 bytes) ≡ false)
    × (embedded_fields (take 548 bytes) ≡ record quoted { payload = take (548 - header_len_of bytes) quoted.payload })
embedded_of-front bytes quoted is =
    let parts = quoted_parts (lacks_header bytes) (embedded_fields bytes) quoted is in
    let has = has_header bytes parts.0 in
    let len = header_len_of bytes in
    let header = take len bytes in
    let payload = drop len bytes in
    let more = take (548 - len) payload in
    let header_is : length header ≡ len = length-take-le len bytes has.within in
    let first : slice_index header 0 ≡ slice_index bytes 0 = get_or-take len bytes 0 0 (omega (arith, has.least)) in
    let own_len : header_len_of header ≡ length header = ap (λ n. 4 * (n % 16)) first ∙ sym header_is in
    let least : 20 ≤ length header = omega (arith, header_is, has.least) in
    let front : take 548 bytes ≡ header ++ more =
    ap (λ l. take 548 l) (sym (take-append-drop len bytes))
    ∙ front-parts header payload (omega (arith, header_is))
    ∙ ap (λ n. header ++ take (548 - n) payload) header_is in
    let whole : embedded_fields bytes ≡ record (about (fields4 header payload)) { payload = payload } =
    ap embedded_fields (sym (take-append-drop len bytes)) ∙ embedded_fields-joined header payload payload least own_len in
    let with_more : EmbeddedPacket → EmbeddedPacket = λ q. record q { payload = take (548 - len) q.payload } in (
      ap lacks_header front ∙ lacks_header-joined header more least (ap (λ n. n / 16) first ∙ has.version) own_len has.sum,
      ap embedded_fields front ∙ embedded_fields-joined header more payload least own_len
          ∙ ap with_more (sym whole ∙ parts.1),
    )

-- a packet that is read is quoted whole
pub embedded_of-packet : (p : Packet4) → ip4_of (p.header ++ p.payload) ≡ Ok p → embedded_of (p.header ++ p.payload) ≡ Some (about p)
embedded_of-packet p is =
    let bytes = p.header ++ p.payload in
    let spelt = ip4_of-Ok bytes p is in
    let shaped = ip4_of-shaped bytes p is in
    let first : slice_index bytes 0 ≡ slice_index p.header 0 = get_or_append_left p.header p.payload 0 0 (omega (arith, shaped.least_header)) in
    let version : slice_index p.header 0 / 16 ≡ 4 = ap (λ n. n / 16) (sym first) ∙ spelt.version in
    let len : header_len_of p.header ≡ length p.header = ap (λ n. 4 * (n % 16)) (sym first) ∙ sym shaped.header_len in
    let header_is : p.header ≡ take (header_len_of bytes) bytes = ap (λ (q : Packet4). q.header) spelt.is in
    let sum : checksum p.header ≡ 0 = ap checksum header_is ∙ spelt.sum in
    let payload_is = ap (λ (q : Packet4). q.payload) spelt.is in
    let own : p ≡ fields4 p.header p.payload = spelt.is ∙ sym (λ i. fields4 (header_is i) (payload_is i)) in
    let lacks = lacks_header-joined p.header p.payload shaped.least_header version len sum in
    let fields = embedded_fields-joined p.header p.payload p.payload shaped.least_header len in
    rw (lacks, fields) (ap (λ (q : Packet4). Some (record (about q) { payload = p.payload })) (sym own))

-- an error is read as a packet from one address to another
pub ip4_of-error4 : (own to : V4) (kind code word : ℕ) (packet : List ℕ) → own.0 < 2 ^ 32 → to.0 < 2 ^ 32 →
    ip4_of (error4 own to kind code word packet) ≡ Ok (made4 (error_head own to) [] (icmp4_bytes kind code word (take 548 packet)))
ip4_of-error4 own to kind code word packet own_fits to_fits =
    ip4_of-header4 (error_head own to) [] (icmp4_bytes kind code word (take 548 packet)) own_fits to_fits (omega arith) refl (omega arith)

-- and the message in it as one about the packet
pub error4-tells : (own to : V4) (kind code word : ℕ) (packet : List ℕ) (quoted : EmbeddedPacket) → own.0 < 2 ^ 32 → to.0 < 2 ^ 32 →
    word < 2 ^ 32 → is_echo kind ≡ false → embedded_of packet ≡ Some quoted →
    TellsOf own to kind code word packet quoted (error4 own to kind code word packet)
error4-tells own to kind code word packet quoted own_fits to_fits fits error is =
    let quote = take 548 packet in
    let about_it = embedded_of-front packet quoted is in
    let some : (is_echo kind || not (lacks_header quote)) ≡ true = rw (error, about_it.0) refl in
    let read = icmp4_of-bytes kind code word quote fits some in
    record {
      message = icmp4_bytes kind code word quote;
      outer = ip4_of-error4 own to kind code word packet own_fits to_fits;
      inner = read ∙ rw (error, about_it.0, about_it.1) refl;
    }

pub error4-size : (own to : V4) (kind code word : ℕ) (header payload : List ℕ) →
    length (error4 own to kind code word (header ++ payload)) ≡ 28 + min 548 (length header + length payload)
error4-size own to kind code word header payload =
    omega (arith, length-take 548 (header ++ payload), length-append header payload)
