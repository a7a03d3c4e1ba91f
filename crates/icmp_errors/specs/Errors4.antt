-- The ICMPv4 errors that the router sends (RFC 792; RFC 1812, section 4.3.2).
use Rattle.std.specs.Prelude.{◌≡◌, ℕ, ◌+◌, ◌-◌, ◌/◌, true, false, List, [], ◌++◌, length, take, min, Some, Ok}
use Rattle.icmp_codec.specs.Quoted.{EmbeddedPacket}
use Rattle.aftr_base.specs.declared.numbers.V4.{V4}
use Rattle.icmp_codec.specs.Message4.{icmp4_bytes, icmp4_of}
use Rattle.icmp_errors.specs.Answers.{about}
use Rattle.ip_codec.specs.Packet4.{Packet4, header4, header_len_of, ip4_of, made4}
use Rattle.ip_codec.specs.declared.packet4.Head4.{Head4}

-- As much of a packet is quoted as leaves the error at most 576 bytes, the packet that every host takes: 548 behind a header
-- of 20 and the message's first 8 (RFC 1812, section 4.3.2.3).
abbrev pub most_quoted : ℕ
most_quoted = 548

-- how many bytes an error has that quotes a packet of so many
abbrev pub error_len : ℕ → ℕ
error_len quoted = 28 + min most_quoted quoted

-- the header of an error: no type of service and no identification (both ours), DF, the time to live that hosts start with,
-- and ICMP behind it
abbrev pub error_head : V4 → V4 → Head4
error_head own to = record {
  tos = 0;
  id = 0;
  reserved = false;
  df = true;
  mf = false;
  offset = 0;
  ttl = 64;
  protocol = 1;
  src = own;
  dst = to;
}

-- an error from one address to another, byte for byte: type, code, the 32 bits behind the checksum, and the packet that it
-- quotes the first bytes of
abbrev pub error4 : V4 → V4 → ℕ → ℕ → ℕ → List ℕ → List ℕ
error4 own to kind code word packet =
    let message = icmp4_bytes kind code word (take most_quoted packet) in
    header4 (error_head own to) [] (length message) ++ message

-- the same to the source of a packet, which is quoted as it came
abbrev pub error_about : V4 → ℕ → ℕ → ℕ → Packet4 → List ℕ
error_about own kind code word p = error4 own (record { 0 = p.src }) kind code word (p.header ++ p.payload)

-- the host is not reached: destination unreachable, code 1 (RFC 792)
abbrev pub unreachable_bytes : V4 → Packet4 → List ℕ
unreachable_bytes own p = error_about own 3 1 0 p

-- fragmentation is needed and DF is set: code 4, with the size that the next link takes in the low 16 bits (RFC 1191,
-- section 4)
abbrev pub too_big_bytes : V4 → ℕ → Packet4 → List ℕ
too_big_bytes own mtu p = error_about own 3 4 mtu p

-- the time to live is used up: time exceeded in transit (RFC 792)
abbrev pub exceeded_bytes : V4 → Packet4 → List ℕ
exceeded_bytes own p = error_about own 11 0 0 p

-- What its receiver finds in an error about a packet that begins with a header: an IPv4 packet to itself that sums up, and in
-- it a message of this type, code and word that sums up and quotes that very packet, with as much of its payload as there is
-- room for.
pub record TellsOf (own to : V4) (kind code word : ℕ) (packet : List ℕ) (quoted : EmbeddedPacket) (bytes : List ℕ) : Type 0 where
  pub message : List ℕ
  pub outer : ip4_of bytes ≡ Ok (made4 (error_head own to) [] message)
  pub inner : icmp4_of message ≡ Ok (record {
    kind = kind;
    code = code;
    id = word / 65536;
    word = word;
    rest = take most_quoted packet;
    embedded = Some (record quoted { payload = take (most_quoted - header_len_of packet) quoted.payload });
  })

-- what the source of a packet that `ip4` reads finds in an error about it
abbrev pub TellsSource : V4 → ℕ → ℕ → ℕ → Packet4 → List ℕ → Type 0
TellsSource own kind code word p bytes = ip4_of (p.header ++ p.payload) ≡ Ok p →
    TellsOf own (record { 0 = p.src }) kind code word (p.header ++ p.payload) (about p) bytes
