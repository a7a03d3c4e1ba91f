-- IPv6 packets: what bytes spell, and what is written (RFC 8200, section 3).
use Rattle.std.specs.Prelude.{◌≡◌, ℕ, ◌-◌, ◌/◌, ◌≤◌, ◌==◌, nat_lt, Bool, not, List, [], ◌∷◌, ◌++◌, length, slice_index, Result, Ok, Err}
use Rattle.std.specs.Int.{w32, w128, to_be_bytes}
use Rattle.aftr_base.specs.Numbers.{big_endian, span, word_bytes}
use Rattle.aftr_base.specs.First.{first_true, refused_or}
use Rattle.ip_codec.specs.declared.packet6.Ip6View.{Ip6View}
use Rattle.ip_codec.specs.declared.packet6.Head6.{Head6}
use Rattle.ip_codec.specs.declared.packet6.Ip6Bad.{Ip6Bad}
use Rattle.ip_codec.specs.declared.packet6.Ip6Bad.TheVariants as bad

-- the fields of a packet and its body: all that stands behind the fixed header
pub record Packet6 : Type 0 where
  pub word : ℕ
  pub next : ℕ
  pub hop : ℕ
  pub src : ℕ
  pub dst : ℕ
  pub body : List ℕ

-- how many bytes the header says that stand behind it
abbrev pub payload_len : List ℕ → ℕ
payload_len bytes = big_endian (span bytes 4 2)

-- what is wrong with the bytes: each condition with its refusal
abbrev pub refusals6 : List ℕ → List (Bool × Ip6Bad)
refusals6 bytes =
    (nat_lt (length bytes) 40, bad.Short (length bytes))
    ∷ (not (slice_index bytes 0 / 16 == 6), bad.Version)
    ∷ (nat_lt (length bytes - 40) (payload_len bytes), bad.Payload)
    ∷ []

-- the fields and the body as the header claims; bytes past the body count for nothing
abbrev pub fields6 : List ℕ → Packet6
fields6 bytes = record {
  word = big_endian (span bytes 0 4);
  next = slice_index bytes 6;
  hop = slice_index bytes 7;
  src = big_endian (span bytes 8 16);
  dst = big_endian (span bytes 24 16);
  body = span bytes 40 (payload_len bytes);
}

-- the packet that the bytes spell, or the first true refusal
abbrev pub ip6_of : List ℕ → Result Packet6 Ip6Bad
ip6_of bytes = refused_or (first_true (refusals6 bytes)) (fields6 bytes)

abbrev pub packet6 : Ip6View → Packet6
packet6 view = record {
  word = view.word;
  next = view.next;
  hop = view.hop;
  src = view.src.0;
  dst = view.dst.0;
  body = view.body.now;
}

-- an answer of reading, held against what the bytes spell
abbrev pub Reads6 : Result Ip6View Ip6Bad → Result Packet6 Ip6Bad → Type 0
Reads6 (Ok view) read = read ≡ Ok (packet6 view)
Reads6 (Err refusal) read = read ≡ Err refusal

-- the highest four bits of the first word
abbrev pub version6 : ℕ → ℕ
version6 word = word / 268435456

-- the limits that the format sets to a packet that was read
pub record IsBounded6 (packet : Packet6) : Type 0 where
  pub version : version6 packet.word ≡ 6
  pub next : packet.next ≤ 255
  pub hop : packet.hop ≤ 255
  pub most : length packet.body ≤ 65535

-- the fixed header with these fields, before a body of a length
abbrev pub header6 : Head6 → ℕ → List ℕ
header6 head payload_len =
    to_be_bytes w32 head.word
    ++ word_bytes payload_len
    ++ head.next ∷ head.hop ∷ []
    ++ to_be_bytes w128 head.src.0
    ++ to_be_bytes w128 head.dst.0

-- a packet with these fields and body, byte for byte
abbrev pub bytes6 : Head6 → List ℕ → List ℕ
bytes6 head body = header6 head (length body) ++ body

-- the packet that has these fields and body
abbrev pub made6 : Head6 → List ℕ → Packet6
made6 head body = record {
  word = head.word;
  next = head.next;
  hop = head.hop;
  src = head.src.0;
  dst = head.dst.0;
  body = body;
}
