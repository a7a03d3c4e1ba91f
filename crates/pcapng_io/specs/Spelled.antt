-- Captures of blocks as they are written.
use Rattle.std.specs.Prelude.{ℕ, ◌^◌, ◌<◌, ◌≤◌, List, ◌++◌, length, flat_map}
use Rattle.capture_io.specs.Packets.{packet_bytes, section_bytes}
use Rattle.capture_io.specs.Written.{TimedPacket}
use Rattle.capture_io.specs.declared.written.Written.TheVariants as written

-- a packet that a block is written for: its time is in nanoseconds
pub record IsWritable (p : TimedPacket) : Type 0 where
  pub seconds : p.seconds < 2 ^ 32
  pub fraction : p.fraction < 1000000000
  pub size : length p.packet ≤ 65575

-- the file of a list of packets
abbrev pub blocks_bytes : List TimedPacket → List ℕ
blocks_bytes packets = section_bytes ++ flat_map (λ p. packet_bytes written.Blocks p.seconds p.fraction p.packet) packets
