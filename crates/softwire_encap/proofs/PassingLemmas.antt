-- Lemmas on headers whose time to live is another one: nothing else that they spell differs.
use Rattle.std.proofs.Common.{◌≡◌, ℕ, ◌+◌, ◌-◌, ◌*◌, ◌/◌, ◌%◌, ◌≤◌, List, [], ◌∷◌, ◌++◌, length, drop, Ok, refl, sym, ◌∙◌, ap, subst, arith, slice_index, slice_set}
use Rattle.std.proofs.lemmas.List.{get_or_append_left, length-append}
use Rattle.aftr_base.specs.Numbers.{big_endian}
use Rattle.aftr_base.specs.Sums.{checksum, sealed}
use Rattle.aftr_base.proofs.SumLemmas.{checksum-sealed}
use Rattle.ip_codec.specs.Packet4.{Packet4, ip4_of, fields4, total_len_of}
use Rattle.ip_codec.proofs.Laws.{span-append}
use Rattle.ip_codec.proofs.Laws.{ip4_of-Ok, ip4_of-joined, ip4_of-shaped}
use Rattle.softwire_encap.specs.Passing.{lowered_header, lowered, lowered_ttl, passed}

-- the first four of a list, and the rest
pub record IsFour (l : List ℕ) : Type 0 where
  pub a : ℕ
  pub b : ℕ
  pub c : ℕ
  pub d : ℕ
  pub rest : List ℕ
  pub is : l ≡ a ∷ b ∷ c ∷ d ∷ rest
  pub len : length l ≡ 4 + length rest

pub four : (l : List ℕ) → 4 ≤ length l → IsFour l
four [] least = absurd (omega arith)
four (a ∷ []) least = absurd (omega arith)
four (a ∷ b ∷ []) least = absurd (omega arith)
four (a ∷ b ∷ c ∷ []) least = absurd (omega arith)
four (a ∷ b ∷ c ∷ d ∷ rest) least = record { a = a; b = b; c = c; d = d; rest = rest; is = refl; len = omega arith }

-- a header with this time to live and its own checksum
abbrev with_ttl : List ℕ → ℕ → List ℕ
with_ttl header ttl = sealed (slice_set header 8 ttl) 10

-- what such a header spells
record IsKept (header payload : List ℕ) (ttl : ℕ) : Type 0 where
  pub len : length (with_ttl header ttl) ≡ length header
  pub first : slice_index (with_ttl header ttl) 0 ≡ slice_index header 0
  pub tos : slice_index (with_ttl header ttl) 1 ≡ slice_index header 1
  pub options : drop 20 (with_ttl header ttl) ≡ drop 20 header
  pub total : total_len_of (with_ttl header ttl) ≡ total_len_of header
  pub sum : checksum (with_ttl header ttl) ≡ 0
  pub fields : fields4 (with_ttl header ttl) payload ≡ record (fields4 header payload) { ttl = ttl; header = with_ttl header ttl }

kept-cells : (a0 a1 a2 a3 a4 a5 a6 a7 a8 a9 a10 a11 a12 a13 a14 a15 a16 a17 a18 a19 : ℕ) (options payload : List ℕ) (ttl : ℕ) →
    IsKept (a0 ∷ a1 ∷ a2 ∷ a3 ∷ a4 ∷ a5 ∷ a6 ∷ a7 ∷ a8 ∷ a9 ∷ a10 ∷ a11 ∷ a12 ∷ a13 ∷ a14 ∷ a15 ∷ a16 ∷ a17 ∷ a18 ∷ a19 ∷ options) payload ttl
kept-cells a0 a1 a2 a3 a4 a5 a6 a7 a8 a9 a10 a11 a12 a13 a14 a15 a16 a17 a18 a19 options payload ttl = record {
  len = refl;
  first = refl;
  tos = refl;
  options = refl;
  total = refl;
  sum = checksum-sealed (a0 ∷ a1 ∷ a2 ∷ a3 ∷ a4 ∷ a5 ∷ a6 ∷ a7 ∷ ttl ∷ a9 ∷ a10 ∷ a11 ∷ a12 ∷ a13 ∷ a14 ∷ a15 ∷ a16 ∷ a17 ∷ a18 ∷ a19 ∷ options) 10 refl (omega arith);
  fields = refl;
}

kept : (header payload : List ℕ) (ttl : ℕ) → 20 ≤ length header → IsKept header payload ttl
kept header payload ttl least =
    let p = four header (omega arith) in
    let q = four p.rest (omega (arith, p.len)) in
    let r = four q.rest (omega (arith, p.len, q.len)) in
    let s = four r.rest (omega (arith, p.len, q.len, r.len)) in
    let t = four s.rest (omega (arith, p.len, q.len, r.len, s.len)) in
    let cells : header ≡ p.a ∷ p.b ∷ p.c ∷ p.d ∷ q.a ∷ q.b ∷ q.c ∷ q.d ∷ r.a ∷ r.b ∷ r.c ∷ r.d ∷ s.a ∷ s.b ∷ s.c ∷ s.d ∷ t.a ∷ t.b ∷ t.c ∷ t.d ∷ t.rest =
    p.is
    ∙ ap (λ l. p.a ∷ p.b ∷ p.c ∷ p.d ∷ l) (q.is
    ∙ ap (λ l. q.a ∷ q.b ∷ q.c ∷ q.d ∷ l) (r.is
    ∙ ap (λ l. r.a ∷ r.b ∷ r.c ∷ r.d ∷ l) (s.is
    ∙ ap (λ l. s.a ∷ s.b ∷ s.c ∷ s.d ∷ l) t.is))) in
    let Kept : List ℕ → Type 0 = λ l. IsKept l payload ttl in
    subst Kept (sym cells) (kept-cells p.a p.b p.c p.d q.a q.b q.c q.d r.a r.b r.c r.d s.a s.b s.c s.d t.a t.b t.c t.d t.rest payload ttl)

-- a packet that is read from its header and payload has the fields that the two spell
pub fields-own : (packet : Packet4) → ip4_of (packet.header ++ packet.payload) ≡ Ok packet → packet ≡ fields4 packet.header packet.payload
fields-own packet is =
    let spelt = ip4_of-Ok (packet.header ++ packet.payload) packet is in
    let header_is = ap (λ p. p.header) spelt.is in
    let payload_is = ap (λ p. p.payload) spelt.is in
    spelt.is ∙ sym (λ i. fields4 (header_is i) (payload_is i))

-- a packet that is passed on is read with the time to live one less
pub ip4_of-lowered : (packet : Packet4) → ip4_of (packet.header ++ packet.payload) ≡ Ok packet → ip4_of (lowered packet) ≡ Ok (passed packet)
ip4_of-lowered packet is =
    let header = packet.header in
    let payload = packet.payload in
    let new = lowered_header packet in
    let spelt = ip4_of-Ok (header ++ payload) packet is in
    let shaped = ip4_of-shaped (header ++ payload) packet is in
    let same = kept header payload (lowered_ttl packet) shaped.least_header in
    let first : slice_index new 0 ≡ slice_index (header ++ payload) 0 =
    same.first ∙ sym (get_or_append_left header payload 0 0 (omega (arith, shaped.least_header))) in
    let total : total_len_of new ≡ total_len_of (header ++ payload) =
    same.total ∙ ap big_endian (sym (span-append header payload 2 2 (omega (arith, shaped.least_header)))) in
    let total_is : total_len_of new ≡ length new + length payload =
    total ∙ sym shaped.total_len ∙ ap (λ n. n + length payload) (sym same.len) in
    let changed : Packet4 → Packet4 = λ p. record p { ttl = lowered_ttl packet; header = new } in
    ip4_of-joined new payload (omega (arith, same.len, shaped.least_header))
    (ap (λ n. n / 16) first ∙ spelt.version)
    (ap (λ n. 4 * (n % 16)) first ∙ sym shaped.header_len ∙ sym same.len)
    total_is
    same.sum
    ∙ ap Ok (same.fields ∙ ap changed (sym (fields-own packet is)))

-- passing a packet on changes neither its length, nor its type of service, nor its options
pub record IsLikeOld (packet : Packet4) : Type 0 where
  pub header_len : length (lowered_header packet) ≡ length packet.header
  pub options : drop 20 (lowered_header packet) ≡ drop 20 packet.header
  pub len : length (lowered packet) ≡ length packet.header + length packet.payload
  pub tos : slice_index (lowered packet) 1 ≡ packet.tos

pub like_old : (packet : Packet4) → ip4_of (packet.header ++ packet.payload) ≡ Ok packet → IsLikeOld packet
like_old packet is =
    let header = packet.header in
    let payload = packet.payload in
    let new = lowered_header packet in
    let shaped = ip4_of-shaped (header ++ payload) packet is in
    let same = kept header payload (lowered_ttl packet) shaped.least_header in
    let first : slice_index (lowered packet) 1 ≡ slice_index new 1 = get_or_append_left new payload 0 1 (omega (arith, same.len, shaped.least_header)) in
    let own : packet.tos ≡ slice_index header 1 = ap (λ (p : Packet4). p.tos) (fields-own packet is) in
    record {
      header_len = same.len;
      options = same.options;
      len = length-append new payload ∙ ap (λ n. n + length payload) same.len;
      tos = first ∙ same.tos ∙ sym own;
    }
