-- ICMPv6 messages: what bytes spell, and what is written (RFC 4443, section 2).
use Rattle.std.specs.Prelude.{◌≡◌, ℕ, ◌==◌, nat_lt, Bool, not, List, [], ◌∷◌, ◌++◌, length, drop, slice_index, Result, Ok, Err}
use Rattle.std.specs.Int.{w32, w128, to_be_bytes}
use Rattle.aftr_base.specs.Numbers.{big_endian, span, with_word}
use Rattle.aftr_base.specs.Sums.{checksum}
use Rattle.aftr_base.specs.First.{first_true, refused_or}
use Rattle.icmp_codec.specs.Message4.{message_head}
use Rattle.icmp_codec.specs.declared.message4.IcmpBad.{IcmpBad}
use Rattle.icmp_codec.specs.declared.message4.IcmpBad.TheVariants as bad
use Rattle.icmp_codec.specs.declared.message6.Icmp6View.{Icmp6View}

-- the fields of a message, and what stands behind its first 8 bytes
pub record Message6 : Type 0 where
  pub kind : ℕ
  pub code : ℕ
  pub word : ℕ
  pub rest : List ℕ

-- The pseudo-header of a message of this length: source, destination, the length in 32 bits, three zeros, and the number
-- of ICMPv6 (RFC 8200, section 8.1). A packet's message has at most 65,535 bytes; of a longer one the low 32 bits of the
-- length count (ours).
abbrev pub pseudo_header : ℕ → ℕ → ℕ → List ℕ
pseudo_header src dst message_len =
    to_be_bytes w128 src ++ to_be_bytes w128 dst ++ to_be_bytes w32 message_len ++ 0 ∷ 0 ∷ 0 ∷ 58 ∷ []

-- the checksum of a message between two addresses (RFC 4443, section 2.3)
abbrev pub checksum6 : ℕ → ℕ → List ℕ → ℕ
checksum6 src dst message = checksum (pseudo_header src dst (length message) ++ message)

-- what is wrong with the bytes: each condition with its refusal
abbrev pub message_refusals6 : ℕ → ℕ → List ℕ → List (Bool × IcmpBad)
message_refusals6 src dst bytes =
    (nat_lt (length bytes) 8, bad.Short)
    ∷ (not (checksum6 src dst bytes == 0), bad.Checksum)
    ∷ []

-- the fields that the bytes spell
abbrev pub message_fields6 : List ℕ → Message6
message_fields6 bytes = record {
  kind = slice_index bytes 0;
  code = slice_index bytes 1;
  word = big_endian (span bytes 4 4);
  rest = drop 8 bytes;
}

-- the message that the bytes spell between two addresses, or the first true refusal
abbrev pub icmp6_of : ℕ → ℕ → List ℕ → Result Message6 IcmpBad
icmp6_of src dst bytes = refused_or (first_true (message_refusals6 src dst bytes)) (message_fields6 bytes)

abbrev pub message6 : Icmp6View → Message6
message6 view = record {
  kind = view.kind;
  code = view.code;
  word = view.word;
  rest = view.rest.now;
}

-- an answer of reading, held against what the bytes spell
abbrev pub ReadsMessage6 : Result Icmp6View IcmpBad → Result Message6 IcmpBad → Type 0
ReadsMessage6 (Ok view) read = read ≡ Ok (message6 view)
ReadsMessage6 (Err refusal) read = read ≡ Err refusal

-- a message with its checksum, byte for byte
abbrev pub icmp6_bytes : ℕ → ℕ → ℕ → ℕ → ℕ → List ℕ → List ℕ
icmp6_bytes src dst kind code word quote =
    let blank = message_head kind code word ++ quote in with_word blank 2 (checksum6 src dst blank)

-- the message that has these fields and quotes these bytes
abbrev pub made_message6 : ℕ → ℕ → ℕ → List ℕ → Message6
made_message6 kind code word quote = record {
  kind = kind;
  code = code;
  word = word;
  rest = quote;
}
