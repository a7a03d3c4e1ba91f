-- Lemmas on messages that are written and read back.
use Rattle.std.proofs.Common.{◌≡◌, ℕ, ◌+◌, ◌*◌, ◌/◌, ◌%◌, ◌^◌, ◌<◌, ◌≤◌, Bool, not, true, false, ◌||◌, ◌&&◌, if◌then◌else◌, List, [], ◌∷◌, ◌++◌, length, drop, slice_index, Option, Some, None, Ok, refl, ◌∙◌, arith}
use Rattle.std.proofs.lemmas.Bool.{le-ltb}
use Rattle.std.proofs.Math.Nat.{mod-eq_of_lt}
use Rattle.aftr_base.specs.First.{first_true, refused_or}
use Rattle.aftr_base.specs.Numbers.{big_endian, span}
use Rattle.aftr_base.specs.Sums.{checksum}
use Rattle.aftr_base.proofs.SumLemmas.{checksum-sealed}
use Rattle.ip_codec.proofs.Laws.{big_endian-bytes_high_first}
use Rattle.icmp_codec.specs.Message4.{Message4, icmp4_bytes, icmp4_of, is_echo, made_message4, message_head}
use Rattle.icmp_codec.specs.Quoted.{EmbeddedPacket, embedded_fields, embedded_of, lacks_header}
use Rattle.icmp_codec.specs.declared.message4.IcmpBad.TheVariants as bad

-- a message that sums up is refused for its quote alone, and an echo not at all
by_quote : (echo lacks : Bool) (packet : EmbeddedPacket) (fields : Option EmbeddedPacket → Message4) → (echo || not lacks) ≡ true →
    refused_or (first_true ((false, bad.Short) ∷ (not echo && false, bad.Checksum) ∷ (not echo && lacks, bad.Embedded) ∷ []))
    (fields (if echo then None else Some packet))
    ≡ Ok (fields (if echo then None else (if lacks then None else Some packet)))
by_quote true lacks packet fields some = refl
by_quote false false packet fields some = refl
by_quote false true packet fields some = absurd cc

icmp4_of-good : (bytes quote : List ℕ) (kind code id word : ℕ) → 8 ≤ length bytes → slice_index bytes 0 ≡ kind →
    slice_index bytes 1 ≡ code → big_endian (span bytes 4 2) ≡ id → big_endian (span bytes 4 4) ≡ word → drop 8 bytes ≡ quote →
    checksum bytes ≡ 0 → (is_echo kind || not (lacks_header quote)) ≡ true →
    icmp4_of bytes ≡ Ok (record { kind = kind; code = code; id = id; word = word; rest = quote; embedded = if is_echo kind then None else embedded_of quote })
icmp4_of-good bytes quote kind code id word least is_kind is_code is_id is_word is_quote sum some =
    rw (le-ltb (length bytes) 8 least, is_kind, is_code, is_id, is_word, is_quote, sum)
    (by_quote (is_echo kind) (lacks_header quote) (embedded_fields quote)
    (λ o. record { kind = kind; code = code; id = id; word = word; rest = quote; embedded = o }) some)

high_half : (word : ℕ) → word < 2 ^ 32 → word / 16777216 % 256 * 256 + word / 65536 % 256 ≡ word / 65536
high_half word small = omega arith

-- a message that is written is read back
pub icmp4_of-bytes : (kind code word : ℕ) (quote : List ℕ) → word < 2 ^ 32 → (is_echo kind || not (lacks_header quote)) ≡ true →
    icmp4_of (icmp4_bytes kind code word quote) ≡ Ok (made_message4 kind code word quote)
icmp4_of-bytes kind code word quote small some =
    icmp4_of-good (icmp4_bytes kind code word quote) quote kind code (word / 65536) word (omega arith) refl refl
    (omega (arith, high_half word small))
    (big_endian-bytes_high_first 4 word ∙ mod-eq_of_lt small) refl
    (checksum-sealed (message_head kind code word ++ quote) 2 refl (omega arith)) some
