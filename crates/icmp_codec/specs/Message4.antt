-- ICMPv4 messages: what bytes spell, and what is written (RFC 792).
use Rattle.std.specs.Prelude.{◌≡◌, ℕ, ◌/◌, ◌==◌, nat_lt, Bool, not, ◌||◌, ◌&&◌, if◌then◌else◌, List, [], ◌∷◌}
use Rattle.std.specs.Prelude.{◌++◌, length, drop, slice_index, Option, Some, None, Result, Ok, Err}
use Rattle.std.specs.Int.{w32, to_be_bytes}
use Rattle.aftr_base.specs.Numbers.{big_endian, span, with_word}
use Rattle.aftr_base.specs.Sums.{checksum}
use Rattle.aftr_base.specs.First.{first_true, refused_or}
use Rattle.icmp_codec.specs.Quoted.{EmbeddedPacket, embedded_fields, embedded_of, lacks_header, quoted}
use Rattle.icmp_codec.specs.declared.message4.Icmp4View.{Icmp4View}
use Rattle.icmp_codec.specs.declared.message4.IcmpBad.{IcmpBad}
use Rattle.icmp_codec.specs.declared.message4.IcmpBad.TheVariants as bad

-- the fields of a message, what stands behind its first 8 bytes, and the packet that it quotes
pub record Message4 : Type 0 where
  pub kind : ℕ
  pub code : ℕ
  pub id : ℕ
  pub word : ℕ
  pub rest : List ℕ
  pub embedded : Option EmbeddedPacket

-- echo reply and echo, which quote no packet (RFC 792)
abbrev pub is_echo : ℕ → Bool
is_echo kind = (kind == 0) || (kind == 8)

-- What is wrong with the bytes: each condition with its refusal. Every message but an echo and its reply is taken to
-- quote a packet, and is looked at as RFC 5508, requirement 3, asks of errors.
abbrev pub message_refusals4 : List ℕ → List (Bool × IcmpBad)
message_refusals4 bytes =
    (nat_lt (length bytes) 8, bad.Short)
    ∷ (not (is_echo (slice_index bytes 0)) && not (checksum bytes == 0), bad.Checksum)
    ∷ (not (is_echo (slice_index bytes 0)) && lacks_header (drop 8 bytes), bad.Embedded)
    ∷ []

-- the fields that the bytes spell, beside a quoted packet
abbrev pub message_fields4 : List ℕ → Option EmbeddedPacket → Message4
message_fields4 bytes embedded = record {
  kind = slice_index bytes 0;
  code = slice_index bytes 1;
  id = big_endian (span bytes 4 2);
  word = big_endian (span bytes 4 4);
  rest = drop 8 bytes;
  embedded = embedded;
}

-- the message that the bytes spell, or the first true refusal
abbrev pub icmp4_of : List ℕ → Result Message4 IcmpBad
icmp4_of bytes = refused_or (first_true (message_refusals4 bytes))
    (message_fields4 bytes (if is_echo (slice_index bytes 0) then None else Some (embedded_fields (drop 8 bytes))))

abbrev pub message4 : Icmp4View → Message4
message4 view = record {
  kind = view.kind;
  code = view.code;
  id = view.id;
  word = view.word;
  rest = view.rest.now;
  embedded = quoted view.embedded;
}

-- an answer of reading, held against what the bytes spell
abbrev pub ReadsMessage4 : Result Icmp4View IcmpBad → Result Message4 IcmpBad → Type 0
ReadsMessage4 (Ok view) read = read ≡ Ok (message4 view)
ReadsMessage4 (Err refusal) read = read ≡ Err refusal

-- the first 8 bytes of a message, with zero in the place of the checksum
abbrev pub message_head : ℕ → ℕ → ℕ → List ℕ
message_head kind code word = kind ∷ code ∷ 0 ∷ 0 ∷ [] ++ to_be_bytes w32 word

-- a message with its checksum, byte for byte
abbrev pub icmp4_bytes : ℕ → ℕ → ℕ → List ℕ → List ℕ
icmp4_bytes kind code word quote = let blank = message_head kind code word ++ quote in with_word blank 2 (checksum blank)

-- the message that has these fields and quotes these bytes
abbrev pub made_message4 : ℕ → ℕ → ℕ → List ℕ → Message4
made_message4 kind code word quote = record {
  kind = kind;
  code = code;
  id = word / 65536;
  word = word;
  rest = quote;
  embedded = if is_echo kind then None else embedded_of quote;
}
