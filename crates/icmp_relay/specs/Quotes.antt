-- The tunnel packets that ICMPv6 errors quote (RFC 2473, section 8; RFC 4443, section 3).
use Rattle.std.specs.Prelude.{◌≡◌, ℕ, ◌/◌, ◌==◌, nat_lt, Bool, not, ◌||◌, ◌&&◌, if◌then◌else◌, List, [], ◌∷◌, length, drop, slice_index, Result, Ok, Err}
use Rattle.aftr_base.specs.Numbers.{big_endian, span}
use Rattle.aftr_base.specs.First.{first_true, refused_or}
use Rattle.icmp_codec.specs.Quoted.{EmbeddedPacket, embedded_fields, lacks_header}
use Rattle.icmp_relay.specs.declared.quotes.Quote.{Quote}
use Rattle.icmp_relay.specs.declared.quotes.QuoteBad.{QuoteBad}
use Rattle.icmp_relay.specs.declared.quotes.QuoteBad.TheVariants as bad

-- the ends of the quoted tunnel packet, the IPv4 packet in it, and that packet's bytes as far as they are quoted
pub record TunnelQuote : Type 0 where
  pub src6 : ℕ
  pub dst6 : ℕ
  pub inner : EmbeddedPacket
  pub packet : List ℕ

-- the IPv6 header has IPv4 (4) behind it
abbrev pub carries_ipv4 : List ℕ → Bool
carries_ipv4 bytes = slice_index bytes 6 == 4

-- It has a Fragment header (44) behind it, which has IPv4 behind it and the offset 0: the first piece of a tunnel packet
-- that was cut (RFC 8200, section 4.5).
abbrev pub is_first_piece : List ℕ → Bool
is_first_piece bytes =
    (slice_index bytes 6 == 44)
    && not (nat_lt (length bytes) 48)
    && (slice_index bytes 40 == 4)
    && (big_endian (span bytes 42 2) / 8 == 0)

-- how many bytes the tunnel's header has, with the Fragment header that follows it
abbrev pub tunnel_len : List ℕ → ℕ
tunnel_len bytes = if carries_ipv4 bytes then 40 else 48

-- The bytes do not begin with the headers of a tunnel. The payload length is not looked at, since quotes are cut.
abbrev pub lacks_tunnel : List ℕ → Bool
lacks_tunnel bytes =
    nat_lt (length bytes) 40 || not (slice_index bytes 0 / 16 == 6) || not (carries_ipv4 bytes || is_first_piece bytes)

-- what is wrong with the quoted bytes: each condition with its refusal
abbrev pub quote_refusals : List ℕ → List (Bool × QuoteBad)
quote_refusals bytes =
    (lacks_tunnel bytes, bad.Tunnel)
    ∷ (lacks_header (drop (tunnel_len bytes) bytes), bad.Inner)
    ∷ []

abbrev pub quote_fields : List ℕ → List ℕ → TunnelQuote
quote_fields bytes packet = record {
  src6 = big_endian (span bytes 8 16);
  dst6 = big_endian (span bytes 24 16);
  inner = embedded_fields packet;
  packet = packet;
}

-- the tunnel packet that the bytes quote, or the first true refusal
abbrev pub quote_of : List ℕ → Result TunnelQuote QuoteBad
quote_of bytes = refused_or (first_true (quote_refusals bytes)) (quote_fields bytes (drop (tunnel_len bytes) bytes))

-- the IPv4 packet of a quote
abbrev pub inner_packet : Quote → EmbeddedPacket
inner_packet q = record {
  protocol = q.protocol;
  offset = q.offset;
  src = q.src.0;
  dst = q.dst.0;
  payload = q.payload.now;
}

abbrev pub tunnel_quote : Quote → TunnelQuote
tunnel_quote q = record {
  src6 = q.src6.0;
  dst6 = q.dst6.0;
  inner = inner_packet q;
  packet = q.packet.now;
}

-- an answer of reading, held against what the bytes quote
abbrev pub ReadsQuote : Result Quote QuoteBad → Result TunnelQuote QuoteBad → Type 0
ReadsQuote (Ok q) read = read ≡ Ok (tunnel_quote q)
ReadsQuote (Err refusal) read = read ≡ Err refusal
