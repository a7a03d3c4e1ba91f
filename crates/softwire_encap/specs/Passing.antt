-- A packet that a router passes on: its time to live is one less (RFC 791, section 3.2; RFC 1812, section 5.3.1).
use Rattle.std.specs.Prelude.{ℕ, ◌-◌, List, ◌++◌, slice_set}
use Rattle.aftr_base.specs.Sums.{sealed}
use Rattle.ip_codec.specs.Packet4.{Packet4}

-- the time to live after one hop
abbrev pub lowered_ttl : Packet4 → ℕ
lowered_ttl packet = packet.ttl - 1

-- the header with one less at the place of the time to live, and its own checksum
abbrev pub lowered_header : Packet4 → List ℕ
lowered_header packet = sealed (slice_set packet.header 8 (lowered_ttl packet)) 10

-- the packet passed on, byte for byte
abbrev pub lowered : Packet4 → List ℕ
lowered packet = lowered_header packet ++ packet.payload

-- what the packet passed on is read as: nothing but the time to live and the header that has it differs
abbrev pub passed : Packet4 → Packet4
passed packet = record packet { ttl = lowered_ttl packet; header = lowered_header packet }
