-- Lemmas on the front of a header that is passed on: its checksum, patched, is the one that is computed anew.
use Rattle.std.proofs.Common.{◌≡◌, ◌≢◌, refl, ℕ, ◌+◌, ◌-◌, ◌*◌, ◌/◌, ◌%◌, ◌<◌, ◌≤◌, List, ◌∷◌, ◌++◌, length, Ok, sym, ◌∙◌, ap, subst, arith, slice_index, slice_set}
use Rattle.std.proofs.lemmas.Bool.{ne_eqb}
use Rattle.std.proofs.lemmas.List.{get_or_append_left}
use Rattle.aftr_base.specs.Sums.{checksum, folded, patched, sealed, word_sum}
use Rattle.aftr_base.proofs.SumLemmas.{folded-le, folded_inside, folded_shift}
use Rattle.ip_codec.specs.Packet4.{Packet4, ip4_of, word}
use Rattle.ip_codec.proofs.Laws.{ip4_of-Ok, ip4_of-shaped}
use Rattle.softwire_encap.specs.Passing.{lowered_header}
use Rattle.softwire_encap.proofs.PassingLemmas.{four, fields-own}

-- A header that sums up, and one word of it changed: what the patched checksum folds is what the changed header sums to.
-- `rest` is the sum of the other words.
patched-same : (rest was now sum : ℕ) → was ≤ 65535 → sum ≤ 65535 → 1 ≤ rest → 1 ≤ (65535 - was) + now →
    folded (rest + was + sum) ≡ 65535 → patched sum was now ≡ 65535 - folded (rest + now)
patched-same rest was now sum word_was word_sum some changed full =
    let terms : ℕ = (65535 - sum) + (65535 - was) + now in
    let whole : ℕ = rest + was + sum in
    let total : terms + whole ≡ rest + now + 65535 * 2 = omega arith in
    let same : folded terms ≡ folded (rest + now) =
    sym (folded_shift terms 1 (λ (z : terms ≡ 0). absurd (omega arith)))
    ∙ ap (λ n. folded (terms + n)) (sym full)
    ∙ sym (folded_inside terms whole)
    ∙ ap folded total
    ∙ folded_shift (rest + now) 2 (λ (z : rest + now ≡ 0). absurd (omega arith)) in
    ap (λ n. 65535 - n) same

folded_some : (sum : ℕ) → sum ≢ 0 → folded sum ≡ (sum - 1) % 65535 + 1
folded_some sum some = rw (ne_eqb sum 0 some) refl

-- the checksum of a word that is 256 less, by whether more than 16 bits are needed
pub patched-below : (sum was : ℕ) → 256 ≤ was → was ≤ 65535 → sum + 256 < 65535 → patched sum was (was - 256) ≡ sum + 256
patched-below sum was least most below =
    let left : ℕ = 65536 + (65278 - sum) in
    let terms : (65535 - sum) + (65535 - was) + (was - 256) ≡ left = omega (arith, least, most, below) in
    ap (λ n. 65535 - folded n) terms ∙ omega (arith, below, folded_some left (λ (e : left ≡ 0). absurd (omega (arith, e))))

pub patched-above : (sum was : ℕ) → 256 ≤ was → was ≤ 65535 → sum ≤ 65535 → 65535 ≤ sum + 256 → patched sum was (was - 256) ≡ sum + 256 - 65535
patched-above sum was least most small above =
    let left : ℕ = 130814 - sum in
    let terms : (65535 - sum) + (65535 - was) + (was - 256) ≡ left = omega (arith, least, most, small, above) in
    ap (λ n. 65535 - folded n) terms ∙ omega (arith, small, above, folded_some left (λ (e : left ≡ 0). absurd (omega (arith, e, small))))

-- the header with less time to live and the patched checksum in it is the one that is passed on, whatever stands behind it
abbrev pub with_front : List ℕ → ℕ → ℕ → List ℕ
with_front bytes ttl sum = slice_set (slice_set (slice_set bytes 8 ttl) 10 (sum / 256)) 11 (sum % 256)

abbrev IsFront : ℕ → ℕ → List ℕ → List ℕ → Type 0
IsFront ttl sum behind header =
    slice_index header 8 ≡ ttl + 1 → slice_index header 8 ≤ 255 → slice_index header 9 ≤ 255 → word header 10 ≤ 65535 →
    slice_index header 0 / 16 ≡ 4 → checksum header ≡ 0 →
    sum ≡ patched (word header 10) (slice_index header 8 * 256 + slice_index header 9) (ttl * 256 + slice_index header 9) →
    with_front (header ++ behind) ttl sum ≡ sealed (slice_set header 8 ttl) 10 ++ behind

front-cells : (a0 a1 a2 a3 a4 a5 a6 a7 a8 a9 a10 a11 : ℕ) (rest behind : List ℕ) (ttl sum : ℕ) →
    IsFront ttl sum behind (a0 ∷ a1 ∷ a2 ∷ a3 ∷ a4 ∷ a5 ∷ a6 ∷ a7 ∷ a8 ∷ a9 ∷ a10 ∷ a11 ∷ rest)
front-cells a0 a1 a2 a3 a4 a5 a6 a7 a8 a9 a10 a11 rest behind ttl sum alive ttl_most protocol_most word_most version sums sum_is =
    let header = a0 ∷ a1 ∷ a2 ∷ a3 ∷ a4 ∷ a5 ∷ a6 ∷ a7 ∷ a8 ∷ a9 ∷ a10 ∷ a11 ∷ rest in
    let blank = a0 ∷ a1 ∷ a2 ∷ a3 ∷ a4 ∷ a5 ∷ a6 ∷ a7 ∷ ttl ∷ a9 ∷ 0 ∷ 0 ∷ rest in
    let others : ℕ = (a0 * 256 + a1) + ((a2 * 256 + a3) + ((a4 * 256 + a5) + ((a6 * 256 + a7) + word_sum rest))) in
    let was : ℕ = a8 * 256 + a9 in
    let now : ℕ = ttl * 256 + a9 in
    let old : ℕ = word header 10 in
    let old_is : old ≡ a10 * 256 + a11 = omega arith in
    let sum_all : word_sum header ≡ others + was + old = omega (arith, old_is) in
    let sum_blank : word_sum blank ≡ others + now = omega arith in
    let full : folded (others + was + old) ≡ 65535 = ap folded (sym sum_all) ∙ omega (arith, sums, folded-le (word_sum header)) in
    let some : 1 ≤ others = omega (arith, version) in
    let new_is : sum ≡ checksum blank =
    sum_is
    ∙ patched-same others was now old (omega arith) word_most some (omega (arith, alive)) full
    ∙ ap (λ n. 65535 - folded n) (sym sum_blank) in
    ap (λ n. a0 ∷ a1 ∷ a2 ∷ a3 ∷ a4 ∷ a5 ∷ a6 ∷ a7 ∷ ttl ∷ a9 ∷ n / 256 ∷ n % 256 ∷ (rest ++ behind)) new_is

front : (header behind : List ℕ) (ttl sum : ℕ) → 20 ≤ length header → IsFront ttl sum behind header
front header behind ttl sum least =
    let p = four header (omega arith) in
    let q = four p.rest (omega (arith, p.len)) in
    let r = four q.rest (omega (arith, p.len, q.len)) in
    let cells : header ≡ p.a ∷ p.b ∷ p.c ∷ p.d ∷ q.a ∷ q.b ∷ q.c ∷ q.d ∷ r.a ∷ r.b ∷ r.c ∷ r.d ∷ r.rest =
    p.is ∙ ap (λ l. p.a ∷ p.b ∷ p.c ∷ p.d ∷ l) (q.is ∙ ap (λ l. q.a ∷ q.b ∷ q.c ∷ q.d ∷ l) r.is) in
    subst (λ l. IsFront ttl sum behind l) (sym cells) (front-cells p.a p.b p.c p.d q.a q.b q.c q.d r.a r.b r.c r.d r.rest behind ttl sum)

-- the same of a packet that is read
pub front-lowered : (packet : Packet4) (behind : List ℕ) (sum : ℕ) → ip4_of (packet.header ++ packet.payload) ≡ Ok packet → 1 ≤ packet.ttl →
    packet.ttl ≤ 255 → packet.protocol ≤ 255 → word packet.header 10 ≤ 65535 →
    sum ≡ patched (word packet.header 10) (packet.ttl * 256 + packet.protocol) ((packet.ttl - 1) * 256 + packet.protocol) →
    with_front (packet.header ++ behind) (packet.ttl - 1) sum ≡ lowered_header packet ++ behind
front-lowered packet behind sum is alive ttl_most protocol_most word_most sum_is =
    let header = packet.header in
    let payload = packet.payload in
    let spelt = ip4_of-Ok (header ++ payload) packet is in
    let shaped = ip4_of-shaped (header ++ payload) packet is in
    let own = fields-own packet is in
    let ttl_is : slice_index header 8 ≡ packet.ttl = sym (ap (λ (p : Packet4). p.ttl) own) in
    let protocol_is : slice_index header 9 ≡ packet.protocol = sym (ap (λ (p : Packet4). p.protocol) own) in
    let first : slice_index header 0 ≡ slice_index (header ++ payload) 0 =
    sym (get_or_append_left header payload 0 0 (omega (arith, shaped.least_header))) in
    let version : slice_index header 0 / 16 ≡ 4 = ap (λ n. n / 16) first ∙ spelt.version in
    let sums : checksum header ≡ 0 = ap checksum (ap (λ (p : Packet4). p.header) spelt.is) ∙ spelt.sum in
    let old : ℕ = word header 10 in
    let patch_is : sum ≡ patched old (slice_index header 8 * 256 + slice_index header 9) ((packet.ttl - 1) * 256 + slice_index header 9) =
    sum_is ∙ ap (λ n. patched old (n * 256 + packet.protocol) ((packet.ttl - 1) * 256 + packet.protocol)) (sym ttl_is)
    ∙ ap (λ n. patched old (slice_index header 8 * 256 + n) ((packet.ttl - 1) * 256 + n)) (sym protocol_is) in
    front header behind (packet.ttl - 1) sum shaped.least_header (omega (arith, ttl_is)) (omega (arith, ttl_is)) (omega (arith, protocol_is)) word_most
    version sums patch_is
