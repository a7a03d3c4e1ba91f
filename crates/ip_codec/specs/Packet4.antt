-- IPv4 packets: what bytes spell, and what is written (RFC 791, section 3.1).
use Rattle.std.specs.Prelude.{◌≡◌, ℕ, ◌+◌, ◌*◌, ◌-◌, ◌/◌, ◌%◌, ◌≤◌, ◌==◌, nat_lt, Bool, false, not, ◌||◌, ◌&&◌}
use Rattle.std.specs.Prelude.{if◌then◌else◌, List, [], ◌∷◌, ◌++◌, length, take, slice_index, Result, Ok, Err}
use Rattle.std.specs.Int.{w32, to_be_bytes}
use Rattle.aftr_base.specs.Numbers.{big_endian, span, word_bytes}
use Rattle.aftr_base.specs.Sums.{checksum, sealed}
use Rattle.aftr_base.specs.First.{first_true, refused_or}
use Rattle.ip_codec.specs.declared.packet4.Ip4View.{Ip4View}
use Rattle.ip_codec.specs.declared.packet4.Head4.{Head4}
use Rattle.ip_codec.specs.declared.packet4.Ip4Bad.{Ip4Bad}
use Rattle.ip_codec.specs.declared.packet4.Ip4Bad.TheVariants as bad

-- the fields of a packet, its header's bytes (options among them) and its payload
pub record Packet4 : Type 0 where
  pub tos : ℕ
  pub id : ℕ
  pub reserved : Bool
  pub df : Bool
  pub mf : Bool
  pub offset : ℕ
  pub ttl : ℕ
  pub protocol : ℕ
  pub src : ℕ
  pub dst : ℕ
  pub header : List ℕ
  pub payload : List ℕ

-- the two bytes from a place on
abbrev pub word : List ℕ → ℕ → ℕ
word bytes at = big_endian (span bytes at 2)

-- one bit, by its worth
abbrev pub bit : ℕ → ℕ → Bool
bit number worth = number / worth % 2 == 1

-- the fields that a header spells, before a payload
abbrev pub fields4 : List ℕ → List ℕ → Packet4
fields4 header payload = record {
  tos = slice_index header 1;
  id = word header 4;
  reserved = bit (word header 6) 32768;
  df = bit (word header 6) 16384;
  mf = bit (word header 6) 8192;
  offset = word header 6 % 8192;
  ttl = slice_index header 8;
  protocol = slice_index header 9;
  src = big_endian (span header 12 4);
  dst = big_endian (span header 16 4);
  header = header;
  payload = payload;
}

-- how many bytes the header says that it has: its second four bits count words of four bytes
abbrev pub header_len_of : List ℕ → ℕ
header_len_of bytes = 4 * (slice_index bytes 0 % 16)

-- how many bytes the header says that the packet has
abbrev pub total_len_of : List ℕ → ℕ
total_len_of bytes = word bytes 2

-- what is wrong with the bytes: each condition with its refusal
abbrev pub refusals4 : List ℕ → List (Bool × Ip4Bad)
refusals4 bytes =
    (nat_lt (length bytes) 20, bad.Short (length bytes))
    ∷ (not (slice_index bytes 0 / 16 == 4), bad.Version)
    ∷ (nat_lt (header_len_of bytes) 20 || nat_lt (length bytes) (header_len_of bytes), bad.HeaderLength)
    ∷ (nat_lt (total_len_of bytes) (header_len_of bytes) || nat_lt (length bytes) (total_len_of bytes), bad.TotalLength)
    ∷ (not (checksum (take (header_len_of bytes) bytes) == 0), bad.Checksum)
    ∷ []

-- the header and the payload as they claim, or the first true refusal; bytes past the total length count for nothing
abbrev pub ip4_of : List ℕ → Result Packet4 Ip4Bad
ip4_of bytes = refused_or (first_true (refusals4 bytes))
    (fields4 (take (header_len_of bytes) bytes) (span bytes (header_len_of bytes) (total_len_of bytes - header_len_of bytes)))

abbrev pub packet4 : Ip4View → Packet4
packet4 view = record {
  tos = view.tos;
  id = view.id;
  reserved = view.reserved;
  df = view.df;
  mf = view.mf;
  offset = view.offset;
  ttl = view.ttl;
  protocol = view.protocol;
  src = view.src.0;
  dst = view.dst.0;
  header = view.header.now;
  payload = view.payload.now;
}

-- a fragment of a datagram: more of them follow, or some come before it (RFC 791, section 3.2)
abbrev pub is_fragment : Packet4 → Bool
is_fragment packet = packet.mf || not (packet.offset == 0)

-- a packet that is no fragment, and whose header has no options
abbrev pub is_plain : Result Packet4 Ip4Bad → Bool
is_plain (Ok packet) = not (is_fragment packet) && (length packet.header == 20)
is_plain (Err why) = false

-- the bytes of a packet, without whatever stands behind its total length (RFC 791, section 3.1)
abbrev pub whole4 : Packet4 → List ℕ
whole4 packet = packet.header ++ packet.payload

-- how many bytes the packet has, header and payload
abbrev pub packet_len : Packet4 → ℕ
packet_len packet = length packet.header + length packet.payload

-- an answer of reading, held against what the bytes spell
abbrev pub Reads4 : Result Ip4View Ip4Bad → Result Packet4 Ip4Bad → Type 0
Reads4 (Ok view) read = read ≡ Ok (packet4 view)
Reads4 (Err refusal) read = read ≡ Err refusal

-- the limits that the format sets to a packet that was read
pub record IsBounded4 (packet : Packet4) : Type 0 where
  pub tos : packet.tos ≤ 255
  pub id : packet.id ≤ 65535
  pub offset : packet.offset ≤ 8191
  pub ttl : packet.ttl ≤ 255
  pub protocol : packet.protocol ≤ 255
  pub whole_words : length packet.header % 4 ≡ 0
  pub least_header : 20 ≤ length packet.header
  pub most_header : length packet.header ≤ 60
  pub most : length packet.header + length packet.payload ≤ 65535

-- a flag, as its worth in the word that it shares with the offset
abbrev pub flag_worth : Bool → ℕ → ℕ
flag_worth on worth = if on then worth else 0

-- the word of the three flags and the offset
abbrev pub flags_of : Head4 → ℕ
flags_of head = flag_worth head.reserved 32768 + flag_worth head.df 16384 + flag_worth head.mf 8192 + head.offset

-- the twenty bytes before the options, with zero in the place of the checksum
abbrev pub fixed4 : Head4 → ℕ → ℕ → List ℕ
fixed4 head header_len total_len =
    (64 + header_len / 4) ∷ head.tos ∷ []
    ++ word_bytes total_len
    ++ word_bytes head.id
    ++ word_bytes (flags_of head)
    ++ head.ttl ∷ head.protocol ∷ 0 ∷ 0 ∷ []
    ++ to_be_bytes w32 head.src.0
    ++ to_be_bytes w32 head.dst.0

-- a header with these fields and options and its checksum, for a payload of a length
abbrev pub header4 : Head4 → List ℕ → ℕ → List ℕ
header4 head options payload_len =
    sealed (fixed4 head (20 + length options) (20 + length options + payload_len) ++ options) 10

-- the packet that has these fields, options and payload
abbrev pub made4 : Head4 → List ℕ → List ℕ → Packet4
made4 head options payload = record {
  tos = head.tos;
  id = head.id;
  reserved = head.reserved;
  df = head.df;
  mf = head.mf;
  offset = head.offset;
  ttl = head.ttl;
  protocol = head.protocol;
  src = head.src.0;
  dst = head.dst.0;
  header = header4 head options (length payload);
  payload = payload;
}
