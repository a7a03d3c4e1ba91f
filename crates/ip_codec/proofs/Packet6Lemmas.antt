-- Lemmas on IPv6 packets: the version, and a packet that is written and read back.
use Rattle.std.proofs.Common.{◌==◌, ◌≡◌, ℕ, ◌+◌, ◌-◌, ◌/◌, ◌^◌, ◌<◌, ◌≤◌, List, [], ◌∷◌, length, Ok, refl, sym, ◌∙◌, arith, slice_index}
use Rattle.std.proofs.lemmas.List.{take_all}
use Rattle.std.proofs.lemmas.Bool.{le-ltb, ltb-false, eqb-true}
use Rattle.std.proofs.Math.Nat.{mod-eq_of_lt}
use Rattle.aftr_base.specs.Numbers.{big_endian, span}
use Rattle.aftr_base.proofs.NumberLemmas.{length-span}
use Rattle.ip_codec.specs.declared.packet6.Head6.{Head6}
use Rattle.ip_codec.specs.Packet6.{IsBounded6, Packet6, ip6_of, refusals6, fields6, payload_len, bytes6, made6, version6}
use Rattle.ip_codec.proofs.FieldLemmas.{big_endian-bytes_high_first, big_endian-word_bytes}
use Rattle.aftr_base.proofs.FirstLemmas.{first_true-Ok, not-false}

-- the first word's highest four bits are those of the first byte
pub version6-first : (bytes : List ℕ) → 4 ≤ length bytes → ((i : ℕ) → slice_index bytes i < 256) →
    version6 (big_endian (span bytes 0 4)) ≡ slice_index bytes 0 / 16
version6-first [] within small = absurd (omega arith)
version6-first (a ∷ []) within small = absurd (omega arith)
version6-first (a ∷ b ∷ []) within small = absurd (omega arith)
version6-first (a ∷ b ∷ c ∷ []) within small = absurd (omega arith)
version6-first (a ∷ b ∷ c ∷ d ∷ rest) within small = omega (arith, small 1, small 2, small 3)

-- the limits of what is read
pub bounded-fields6 : (bytes : List ℕ) → 40 + payload_len bytes ≤ length bytes → payload_len bytes ≤ 65535 → slice_index bytes 0 / 16 ≡ 6 →
    ((i : ℕ) → slice_index bytes i < 256) → IsBounded6 (fields6 bytes)
bounded-fields6 bytes within few first small = record {
  version = version6-first bytes (omega (arith, within)) small ∙ first;
  next = omega (arith, small 6);
  hop = omega (arith, small 7);
  most = omega (arith, few, length-span bytes 40 (payload_len bytes) within);
}

-- the conditions under which nothing is refused, and what is read then
ip6_of-good : (bytes body : List ℕ) (word next hop src dst payload_len : ℕ) →
    slice_index bytes 0 / 16 ≡ 6 → big_endian (span bytes 4 2) ≡ payload_len → 40 + payload_len ≤ length bytes →
    big_endian (span bytes 0 4) ≡ word → slice_index bytes 6 ≡ next → slice_index bytes 7 ≡ hop →
    big_endian (span bytes 8 16) ≡ src → big_endian (span bytes 24 16) ≡ dst → span bytes 40 payload_len ≡ body →
    ip6_of bytes ≡ Ok (record { word = word; next = next; hop = hop; src = src; dst = dst; body = body })
ip6_of-good bytes body word next hop src dst payload_len version len within is_word is_next is_hop is_src is_dst is_body =
    rw (
      le-ltb (length bytes) 40 (omega arith),
      version,
      len,
      le-ltb (length bytes - 40) payload_len (omega arith),
      is_word,
      is_next,
      is_hop,
      is_src,
      is_dst,
      is_body,
    ) refl

-- a packet that is written is read back
pub ip6_of-bytes6 : (head : Head6) (body : List ℕ) → head.word < 2 ^ 32 → version6 head.word ≡ 6 →
    head.src.0 < 2 ^ 128 → head.dst.0 < 2 ^ 128 → ip6_of (bytes6 head body) ≡ Ok (made6 head body)
ip6_of-bytes6 head body word_small version src_small dst_small =
    ip6_of-good (bytes6 head body) body head.word head.next head.hop head.src.0 head.dst.0 (length body)
    (omega arith) (big_endian-word_bytes (length body)) (omega arith)
    (big_endian-bytes_high_first 4 head.word ∙ mod-eq_of_lt word_small) refl refl
    (big_endian-bytes_high_first 16 head.src.0 ∙ mod-eq_of_lt src_small)
    (big_endian-bytes_high_first 16 head.dst.0 ∙ mod-eq_of_lt dst_small)
    (take_all (length body) body (omega arith))

-- what holds of bytes that spell a packet
pub record Spells6 (bytes : List ℕ) (packet : Packet6) : Type 0 where
  pub least : 40 ≤ length bytes
  pub version : slice_index bytes 0 / 16 ≡ 6
  pub within : payload_len bytes ≤ length bytes - 40
  pub is : packet ≡ fields6 bytes

pub ip6_of-Ok : (bytes : List ℕ) (packet : Packet6) → ip6_of bytes ≡ Ok packet → Spells6 bytes packet
ip6_of-Ok bytes packet is =
    let none = first_true-Ok (refusals6 bytes) (fields6 bytes) packet is in
    let tests = none.0 in
    record {
      least = ltb-false (length bytes) 40 tests.0;
      version = eqb-true (slice_index bytes 0 / 16) 6 (not-false (slice_index bytes 0 / 16 == 6) tests.1.0);
      within = ltb-false (length bytes - 40) (payload_len bytes) tests.1.1.0;
      is = sym none.1;
    }
