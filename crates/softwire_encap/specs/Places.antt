-- An IPv6 packet by the places of its bytes, as a dissector shows it. No number is read back, so nothing is asked of their ranges.
use Rattle.std.specs.Prelude.{◌≡◌, ℕ, ◌+◌, ◌*◌, List, length, drop, slice_index}
use Rattle.std.specs.Int.{w32, w128, to_be_bytes}
use Rattle.aftr_base.specs.Numbers.{span, word_bytes}
use Rattle.aftr_base.specs.declared.numbers.V6.{V6}
use Rattle.softwire_encap.specs.Tunnel.{tos_of, wrapped}

-- The bytes are an IPv6 header and a body at once behind it (RFC 8200, section 3). The header has this traffic class, no flow label,
-- this next header and hop limit, and these two addresses.
pub record IsPacket6 (from to : V6) (limit protocol class : ℕ) (body bytes : List ℕ) : Type 0 where
  pub first_word : span bytes 0 4 ≡ to_be_bytes w32 (6 * 268435456 + class * 1048576)
  pub payload_length : span bytes 4 2 ≡ word_bytes (length body)
  pub next_header : slice_index bytes 6 ≡ protocol
  pub hop_limit : slice_index bytes 7 ≡ limit
  pub source : span bytes 8 16 ≡ to_be_bytes w128 from.0
  pub destination : span bytes 24 16 ≡ to_be_bytes w128 to.0
  pub behind : drop 40 bytes ≡ body

-- a tunnel packet: IPv4 (4) is in it, whose type of service is the traffic class (RFC 2473, sections 3.1, 5 and 6.4)
abbrev pub IsTunnelPacket : V6 → V6 → ℕ → List ℕ → List ℕ → Type 0
IsTunnelPacket from to limit inner bytes = IsPacket6 from to limit 4 (tos_of inner) inner bytes

abbrev pub TunnelsStand : Type 0
TunnelsStand = (from to : V6) (limit : ℕ) (inner : List ℕ) → IsTunnelPacket from to limit inner (wrapped from to limit inner)
