-- Lemmas on IPv4 packets: a header and a payload that fit each other are read as they stand.
use Rattle.std.proofs.Common.{nat_lt, ◌==◌, ◌||◌, ◌&&◌, not, ◌≡◌, ◌≢◌, ℕ, ◌^◌, Bool, false, ◌+◌, ◌-◌, ◌*◌, ◌/◌, ◌%◌, ◌<◌, ◌≤◌, List, [], ◌∷◌, ◌++◌, length, take, Result, Ok, Err, is_ok, true, refl, sym, ◌∙◌, ap, arith, slice_index}
use Rattle.std.proofs.lemmas.List.{length-append, length-take-le, get_or_append_left, get_or-take, take_all}
use Rattle.std.proofs.lemmas.Bool.{le-ltb, ltb-false, eqb-true, not-true, or_parts, and_parts}
use Rattle.std.proofs.Math.Seq.{take-append_seam, drop-append_seam, take-add}
use Rattle.std.proofs.Math.Nat.{mod-eq_of_lt}
use Rattle.std.proofs.lemmas.Bool.Decides.{nat_tests}
use Rattle.std.specs.Int.{w32, to_be_bytes}
use Rattle.aftr_base.specs.Numbers.{big_endian, span, word_bytes}
use Rattle.aftr_base.specs.Sums.{checksum}
use Rattle.aftr_base.proofs.NumberLemmas.{length-span}
use Rattle.aftr_base.proofs.SumLemmas.{checksum-sealed}
use Rattle.ip_codec.specs.declared.packet4.Head4.{Head4}
use Rattle.ip_codec.specs.declared.packet4.Ip4Bad.{Ip4Bad}
use Rattle.ip_codec.specs.Packet4.{Packet4, ip4_of, refusals4, fields4, header_len_of, total_len_of, bit, flag_worth, flags_of, fixed4, header4, is_fragment, is_plain, made4, word}
use Rattle.ip_codec.proofs.FieldLemmas.{span-append, span-take, big_endian-bytes_high_first, big_endian-word_bytes}
use Rattle.aftr_base.proofs.FirstLemmas.{first_true-Ok, not-false}

-- the conditions under which nothing is refused, and what is read then
pub ip4_of-good : (bytes header payload : List ℕ) (header_len total_len : ℕ) →
    slice_index bytes 0 / 16 ≡ 4 → header_len_of bytes ≡ header_len → total_len_of bytes ≡ total_len →
    20 ≤ header_len → header_len ≤ total_len → total_len ≤ length bytes →
    take header_len bytes ≡ header → span bytes header_len (total_len - header_len) ≡ payload → checksum header ≡ 0 →
    ip4_of bytes ≡ Ok (fields4 header payload)
ip4_of-good bytes header payload header_len total_len v h t least order within is_header is_payload sum =
    rw (
      le-ltb (length bytes) 20 (omega arith),
      v,
      h,
      t,
      le-ltb header_len 20 least,
      le-ltb (length bytes) header_len (omega arith),
      le-ltb total_len header_len order,
      le-ltb (length bytes) total_len within,
      is_header,
      sum,
      is_payload,
    ) refl

-- two parts that lie behind each other are the front of the whole
pub front-parts : (bytes header payload : List ℕ) (header_len total_len : ℕ) → header_len ≤ total_len → total_len ≤ length bytes →
    header ≡ take header_len bytes → payload ≡ span bytes header_len (total_len - header_len) →
    header ++ payload ≡ take (length header + length payload) bytes
front-parts bytes header payload header_len total_len order within is_header is_payload =
    let header_is : length header ≡ header_len = ap length is_header ∙ length-take-le header_len bytes (omega arith) in
    let payload_is : length payload ≡ total_len - header_len =
    ap length is_payload ∙ length-span bytes header_len (total_len - header_len) (omega arith) in
    rw (header_is, payload_is, is_header, is_payload) (sym (take-add header_len (total_len - header_len) bytes))

-- a header behind which its payload stands
pub ip4_of-joined : (header payload : List ℕ) → 20 ≤ length header →
    slice_index header 0 / 16 ≡ 4 → header_len_of header ≡ length header → total_len_of header ≡ length header + length payload →
    checksum header ≡ 0 → ip4_of (header ++ payload) ≡ Ok (fields4 header payload)
ip4_of-joined header payload least version h t sum =
    let first : slice_index (header ++ payload) 0 ≡ slice_index header 0 = get_or_append_left header payload 0 0 (omega arith) in
    let total_is : total_len_of (header ++ payload) ≡ length header + length payload =
    ap big_endian (span-append header payload 2 2 (omega arith)) ∙ t in
    let rest_is : span (header ++ payload) (length header) (length header + length payload - length header) ≡ payload =
    rw (drop-append_seam header payload) (take_all (length header + length payload - length header) payload (omega arith)) in
    ip4_of-good (header ++ payload) header payload (length header) (length header + length payload)
    (ap (λ n. n / 16) first ∙ version) (ap (λ n. 4 * (n % 16)) first ∙ h) total_is least (omega arith) (omega (arith, length-append header payload))
    (take-append_seam header payload) rest_is sum

-- the parts of a packet that is read are such
pub ip4_of-parts : (bytes : List ℕ) (header_len total_len : ℕ) →
    slice_index bytes 0 / 16 ≡ 4 → header_len_of bytes ≡ header_len → total_len_of bytes ≡ total_len →
    20 ≤ header_len → header_len ≤ total_len → total_len ≤ length bytes → checksum (take header_len bytes) ≡ 0 →
    ip4_of (take header_len bytes ++ span bytes header_len (total_len - header_len))
    ≡ Ok (fields4 (take header_len bytes) (span bytes header_len (total_len - header_len)))
ip4_of-parts bytes header_len total_len version h t least order within sum =
    let header = take header_len bytes in
    let payload = span bytes header_len (total_len - header_len) in
    let header_is : length header ≡ header_len = length-take-le header_len bytes (omega arith) in
    let payload_is : length payload ≡ total_len - header_len = length-span bytes header_len (total_len - header_len) (omega arith) in
    let first : slice_index header 0 ≡ slice_index bytes 0 = get_or-take header_len bytes 0 0 (omega arith) in
    ip4_of-joined header payload (omega arith) (ap (λ n. n / 16) first ∙ version) (ap (λ n. 4 * (n % 16)) first ∙ h ∙ sym header_is)
    (ap big_endian (span-take bytes header_len 2 2 (omega arith) (omega arith)) ∙ t ∙ omega arith) sum

-- the flags and the offset, read back from the word that they share
record AreParts (word : ℕ) (reserved df mf : Bool) (offset : ℕ) : Type 0 where
  pub reserved_is : bit word 32768 ≡ reserved
  pub df_is : bit word 16384 ≡ df
  pub mf_is : bit word 8192 ≡ mf
  pub offset_is : word % 8192 ≡ offset

flags-parts : (reserved df mf : Bool) (offset : ℕ) → offset ≤ 8191 →
    AreParts (flag_worth reserved 32768 + flag_worth df 16384 + flag_worth mf 8192 + offset) reserved df mf offset
flags-parts reserved df mf offset small = record { reserved_is = grind (arith, nat_tests); df_is = grind (arith, nat_tests); mf_is = grind (arith, nat_tests); offset_is = grind (arith, nat_tests) }

-- a header that is written has just the fields that were given
fields4-header4 : (head : Head4) (options payload : List ℕ) → head.src.0 < 2 ^ 32 → head.dst.0 < 2 ^ 32 → head.offset ≤ 8191 →
    fields4 (header4 head options (length payload)) payload ≡ made4 head options payload
fields4-header4 head options payload src_small dst_small offset_small =
    let flags_is = big_endian-word_bytes (flags_of head) in
    let parts = flags-parts head.reserved head.df head.mf head.offset offset_small in
    let id_is = big_endian-word_bytes head.id in
    let reserved_is : bit (big_endian (word_bytes (flags_of head))) 32768 ≡ head.reserved = ap (λ w. bit w 32768) flags_is ∙ parts.reserved_is in
    let df_is : bit (big_endian (word_bytes (flags_of head))) 16384 ≡ head.df = ap (λ w. bit w 16384) flags_is ∙ parts.df_is in
    let mf_is : bit (big_endian (word_bytes (flags_of head))) 8192 ≡ head.mf = ap (λ w. bit w 8192) flags_is ∙ parts.mf_is in
    let offset_is : big_endian (word_bytes (flags_of head)) % 8192 ≡ head.offset = ap (λ w. w % 8192) flags_is ∙ parts.offset_is in
    let src_is : big_endian (to_be_bytes w32 head.src.0) ≡ head.src.0 = big_endian-bytes_high_first 4 head.src.0 ∙ mod-eq_of_lt src_small in
    let dst_is : big_endian (to_be_bytes w32 head.dst.0) ≡ head.dst.0 = big_endian-bytes_high_first 4 head.dst.0 ∙ mod-eq_of_lt dst_small in
    λ i. record {
      tos = head.tos;
      id = id_is i;
      reserved = reserved_is i;
      df = df_is i;
      mf = mf_is i;
      offset = offset_is i;
      ttl = head.ttl;
      protocol = head.protocol;
      src = src_is i;
      dst = dst_is i;
      header = header4 head options (length payload);
      payload = payload;
    }

-- a packet that is written is read back
pub ip4_of-header4 : (head : Head4) (options payload : List ℕ) → head.src.0 < 2 ^ 32 → head.dst.0 < 2 ^ 32 → head.offset ≤ 8191 →
    length options % 4 ≡ 0 → length options ≤ 40 →
    ip4_of (header4 head options (length payload) ++ payload) ≡ Ok (made4 head options payload)
ip4_of-header4 head options payload src_small dst_small offset_small words most =
    let header_len = 20 + length options in
    let blank = fixed4 head header_len (header_len + length payload) ++ options in
    let header = header4 head options (length payload) in
    let header_is : length header ≡ header_len = omega arith in
    ip4_of-joined header payload (omega arith) (omega arith) (omega arith)
    (big_endian-word_bytes (header_len + length payload) ∙ omega arith)
    (checksum-sealed blank 10 refl (omega arith))
    ∙ ap Ok (fields4-header4 head options payload src_small dst_small offset_small)

-- what holds of bytes that spell a packet
pub record Spells4 (bytes : List ℕ) (packet : Packet4) : Type 0 where
  pub version : slice_index bytes 0 / 16 ≡ 4
  pub least : 20 ≤ header_len_of bytes
  pub order : header_len_of bytes ≤ total_len_of bytes
  pub within : total_len_of bytes ≤ length bytes
  pub sum : checksum (take (header_len_of bytes) bytes) ≡ 0
  pub is : packet ≡ fields4 (take (header_len_of bytes) bytes) (span bytes (header_len_of bytes) (total_len_of bytes - header_len_of bytes))

pub ip4_of-Ok : (bytes : List ℕ) (packet : Packet4) → ip4_of bytes ≡ Ok packet → Spells4 bytes packet
ip4_of-Ok bytes packet is =
    let good = fields4 (take (header_len_of bytes) bytes) (span bytes (header_len_of bytes) (total_len_of bytes - header_len_of bytes)) in
    let none = first_true-Ok (refusals4 bytes) good packet is in
    let tests = none.0 in
    let header_ok = or_parts (nat_lt (header_len_of bytes) 20) (nat_lt (length bytes) (header_len_of bytes)) tests.1.1.0 in
    let total_ok = or_parts (nat_lt (total_len_of bytes) (header_len_of bytes)) (nat_lt (length bytes) (total_len_of bytes)) tests.1.1.1.0 in
    record {
      version = eqb-true (slice_index bytes 0 / 16) 4 (not-false (slice_index bytes 0 / 16 == 4) tests.1.0);
      least = ltb-false (header_len_of bytes) 20 header_ok.0;
      order = ltb-false (total_len_of bytes) (header_len_of bytes) total_ok.0;
      within = ltb-false (length bytes) (total_len_of bytes) total_ok.1;
      sum = eqb-true (checksum (take (header_len_of bytes) bytes)) 0 (not-false (checksum (take (header_len_of bytes) bytes) == 0) tests.1.1.1.1.0);
      is = sym none.1;
    }

-- a packet that is read is read again from its header and its payload alone
pub ip4_of-alone : (bytes : List ℕ) (packet : Packet4) → ip4_of bytes ≡ Ok packet → ip4_of (packet.header ++ packet.payload) ≡ Ok packet
ip4_of-alone bytes packet is =
    let spelt = ip4_of-Ok bytes packet is in
    ap (λ p. ip4_of (p.header ++ p.payload)) spelt.is
    ∙ ip4_of-parts bytes (header_len_of bytes) (total_len_of bytes) spelt.version refl refl spelt.least spelt.order spelt.within spelt.sum
    ∙ ap Ok (sym spelt.is)

-- a packet that is read has a header of 20 to 60 bytes in words of four, and its bytes are the front of those read
pub record IsShaped4 (bytes : List ℕ) (packet : Packet4) : Type 0 where
  pub least_header : 20 ≤ length packet.header
  pub most_header : length packet.header ≤ 60
  pub whole_words : length packet.header % 4 ≡ 0
  pub offset : packet.offset ≤ 8191
  pub header_len : length packet.header ≡ header_len_of bytes
  pub total_len : length packet.header + length packet.payload ≡ total_len_of bytes
  pub front : packet.header ++ packet.payload ≡ take (total_len_of bytes) bytes

pub ip4_of-shaped : (bytes : List ℕ) (packet : Packet4) → ip4_of bytes ≡ Ok packet → IsShaped4 bytes packet
ip4_of-shaped bytes packet is =
    let spelt = ip4_of-Ok bytes packet is in
    let header_is : length packet.header ≡ header_len_of bytes =
    ap (λ p. length p.header) spelt.is ∙ length-take-le (header_len_of bytes) bytes (omega (arith, spelt.order, spelt.within)) in
    let payload_is : length packet.payload ≡ total_len_of bytes - header_len_of bytes =
    ap (λ p. length p.payload) spelt.is ∙ length-span bytes (header_len_of bytes) (total_len_of bytes - header_len_of bytes) (omega (arith, spelt.order, spelt.within)) in
    let total_is : length packet.header + length packet.payload ≡ total_len_of bytes = omega (arith, header_is, payload_is, spelt.order) in
    let offset_is = ap (λ p. p.offset) spelt.is in
    record {
      least_header = omega (arith, header_is, spelt.least);
      most_header = omega (arith, header_is);
      whole_words = omega (arith, header_is);
      offset = omega (arith, offset_is);
      header_len = header_is;
      total_len = total_is;
      front = front-parts bytes packet.header packet.payload (header_len_of bytes) (total_len_of bytes) spelt.order spelt.within
          (ap (λ p. p.header) spelt.is) (ap (λ p. p.payload) spelt.is)
          ∙ ap (λ n. take n bytes) total_is;
    }

-- what is known of bytes that are read as some packet, by the lengths that their header says
pub record IsKnown4 (bytes : List ℕ) (header_len total_len : ℕ) : Type 0 where
  pub least : 20 ≤ header_len
  pub order : header_len ≤ total_len
  pub within : total_len ≤ length bytes
  pub read : ip4_of bytes ≡ Ok (fields4 (take header_len bytes) (span bytes header_len (total_len - header_len)))

pub ip4_of-known : (bytes : List ℕ) → is_ok (ip4_of bytes) ≡ true → IsKnown4 bytes (header_len_of bytes) (total_len_of bytes)
ip4_of-known bytes known = by_reading (ip4_of bytes) refl known
  where
    by_reading : (read : Result Packet4 Ip4Bad) → ip4_of bytes ≡ read → is_ok read ≡ true → IsKnown4 bytes (header_len_of bytes) (total_len_of bytes)
    by_reading (Ok packet) is ok =
        let spelt = ip4_of-Ok bytes packet is in
        record { least = spelt.least; order = spelt.order; within = spelt.within; read = is ∙ ap Ok spelt.is }
    by_reading (Err why) is ok = absurd (cc ok)

-- such bytes are read as the fields between those lengths
pub known_as : (bytes : List ℕ) (header_len total_len : ℕ) (packet : Packet4) → header_len ≡ header_len_of bytes → total_len ≡ total_len_of bytes →
    is_ok (ip4_of bytes) ≡ true → packet ≡ fields4 (take header_len bytes) (span bytes header_len (total_len - header_len)) → ip4_of bytes ≡ Ok packet
known_as bytes header_len total_len packet h t known is =
    (ip4_of-known bytes known).read ∙ ap Ok (sym (is ∙ (λ i. fields4 (take (h i) bytes) (span bytes (h i) (t i - h i)))))

-- ---- no fragment, and no options
pub fragment_bits : (word : ℕ) → (bit word 8192 || not (word % 8192 == 0)) ≡ not (word % 16384 == 0)
fragment_bits word = grind (arith, nat_tests)

-- what is known of bytes that are read as such a packet
pub record IsPlain4 (bytes : List ℕ) : Type 0 where
  pub reads : is_ok (ip4_of bytes) ≡ true
  pub enough : 20 ≤ length bytes
  pub header_len : header_len_of bytes ≡ 20
  pub uncut : is_fragment (fields4 (take 20 bytes) (span bytes 20 (total_len_of bytes - 20))) ≡ false

pub plain_known : (bytes : List ℕ) → is_plain (ip4_of bytes) ≡ true → IsPlain4 bytes
plain_known bytes plain = by_reading (ip4_of bytes) refl plain
  where
    by_reading : (read : Result Packet4 Ip4Bad) → ip4_of bytes ≡ read → is_plain read ≡ true → IsPlain4 bytes
    by_reading (Ok packet) is ok =
        let both = and_parts (not (is_fragment packet)) (length packet.header == 20) ok in
        let header_is : header_len_of bytes ≡ 20 = sym (ip4_of-shaped bytes packet is).header_len ∙ eqb-true (length packet.header) 20 both.1 in
        let fields_are : fields4 (take 20 bytes) (span bytes 20 (total_len_of bytes - 20)) ≡ packet =
        (λ i. fields4 (take (sym header_is i) bytes) (span bytes (sym header_is i) (total_len_of bytes - sym header_is i))) ∙ sym (ip4_of-Ok bytes packet is).is in
        let spelt = ip4_of-Ok bytes packet is in
        record {
          reads = ap is_ok is;
          enough = omega (arith, spelt.least, spelt.order, spelt.within);
          header_len = header_is;
          uncut = ap is_fragment fields_are ∙ not-true (is_fragment packet) both.0;
        }
    by_reading (Err why) is ok = absurd (cc ok)

-- the first four bytes of a header without options are no zeros
pub first_some : (bytes : List ℕ) → 20 ≤ length bytes → slice_index bytes 0 ≡ 69 → (sum : ℕ) → big_endian (span (take 20 bytes) 0 4) ≤ sum → sum ≢ 0
first_some [] enough first sum least = absurd (omega (arith, enough))
first_some (a ∷ []) enough first sum least = absurd (omega (arith, enough))
first_some (a ∷ b ∷ []) enough first sum least = absurd (omega (arith, enough))
first_some (a ∷ b ∷ c ∷ []) enough first sum least = absurd (omega (arith, enough))
first_some (a ∷ b ∷ c ∷ d ∷ rest) enough first sum least = λ (none : sum ≡ 0). absurd (omega (arith, first, least, none))

-- bytes that begin with such a header are a packet of that kind where no bit of a fragment is set and the checksum holds
pub plain_by_sum : (bytes : List ℕ) → 20 ≤ length bytes → slice_index bytes 0 ≡ 69 → 20 ≤ total_len_of bytes → total_len_of bytes ≤ length bytes →
    is_plain (ip4_of bytes) ≡ ((word bytes 6 % 16384 == 0) && (checksum (take 20 bytes) == 0))
plain_by_sum bytes enough first least within = by_tests (word bytes 6 % 16384 == 0) (checksum (take 20 bytes) == 0) refl refl
  where
    version : slice_index bytes 0 / 16 ≡ 4
    version = ap (λ (n : ℕ). n / 16) first

    header_is : header_len_of bytes ≡ 20
    header_is = ap (λ (n : ℕ). 4 * (n % 16)) first

    cut : is_fragment (fields4 (take 20 bytes) (span bytes 20 (total_len_of bytes - 20))) ≡ not (word bytes 6 % 16384 == 0)
    cut =
        ap (λ (w : ℕ). bit w 8192 || not (w % 8192 == 0)) (ap big_endian (span-take bytes 20 6 2 (omega arith) (omega (arith, enough))))
        ∙ fragment_bits (word bytes 6)

    read : checksum (take 20 bytes) ≡ 0 → ip4_of bytes ≡ Ok (fields4 (take 20 bytes) (span bytes 20 (total_len_of bytes - 20)))
    read sum =
        ip4_of-good bytes (take 20 bytes) (span bytes 20 (total_len_of bytes - 20)) 20 (total_len_of bytes) version header_is refl (omega arith) least within
        refl refl sum

    unsummed : (checksum (take 20 bytes) == 0) ≡ false → is_plain (ip4_of bytes) ≡ false
    unsummed sum =
        rw (version, header_is, le-ltb (length bytes) 20 enough, le-ltb (total_len_of bytes) 20 least, le-ltb (length bytes) (total_len_of bytes) within, sum) refl

    by_tests : (whole holds : Bool) → (word bytes 6 % 16384 == 0) ≡ whole → (checksum (take 20 bytes) == 0) ≡ holds →
        is_plain (ip4_of bytes) ≡ (whole && holds)
    by_tests true true whole sum =
        ap is_plain (read (eqb-true (checksum (take 20 bytes)) 0 sum)) ∙ rw (cut, whole, length-take-le 20 bytes enough) refl
    by_tests false true whole sum = ap is_plain (read (eqb-true (checksum (take 20 bytes)) 0 sum)) ∙ rw (cut, whole) refl
    by_tests true false whole sum = unsummed sum
    by_tests false false whole sum = unsummed sum
