-- IPv4 packets in IPv6 packets: the header of the tunnel (RFC 2473, sections 5 and 6; RFC 8200, section 3).
use Rattle.std.specs.Prelude.{◌≡◌, ℕ, ◌+◌, ◌*◌, ◌/◌, ◌%◌, List, slice_index}
use Rattle.aftr_base.specs.declared.numbers.V6.{V6}
use Rattle.ip_codec.specs.Packet6.{Packet6, bytes6, header6, made6, version6}
use Rattle.ip_codec.specs.declared.packet6.Head6.{Head6}

-- the type of service of an IPv4 packet
abbrev pub tos_of : List ℕ → ℕ
tos_of packet = slice_index packet 1

-- the parts of the first word of an IPv6 header: version, traffic class and flow label
pub record IsFirstWord (word class flow : ℕ) : Type 0 where
  pub version : version6 word ≡ 6
  pub class_is : word / 1048576 % 256 ≡ class
  pub flow_is : word % 1048576 ≡ flow

-- the fields of the tunnel's header: no flow label, the traffic class is the inner type of service, and IPv4 (4) stands behind it
abbrev pub tunnel_head : V6 → V6 → ℕ → ℕ → Head6
tunnel_head from to hop tos = record {
  word = 6 * 268435456 + tos * 1048576;
  next = 4;
  hop = hop;
  src = from;
  dst = to;
}

-- the tunnel packet, byte for byte
abbrev pub wrapped : V6 → V6 → ℕ → List ℕ → List ℕ
wrapped from to hop inner = bytes6 (tunnel_head from to hop (tos_of inner)) inner

-- What stands before the inner packet in it, where that has this type of service and so many bytes.
abbrev pub tunnel_front : V6 → V6 → ℕ → ℕ → ℕ → List ℕ
tunnel_front from to hop tos len = header6 (tunnel_head from to hop tos) len

-- what the tunnel packet is read as
abbrev pub tunnelled : V6 → V6 → ℕ → List ℕ → Packet6
tunnelled from to hop inner = made6 (tunnel_head from to hop (tos_of inner)) inner

-- a packet with another body
abbrev pub with_body : Packet6 → List ℕ → Packet6
with_body packet body = record packet { body = body }
