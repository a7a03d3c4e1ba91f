-- What an item must be for a verdict on it to fit.
use Rattle.std.proofs.Common.{◌≡◌, ℕ, ◌≤◌, true, false, List, Some, Ok}
use Rattle.ip_codec.specs.Packet4.{Packet4, ip4_of, is_fragment, packet_len}
use Rattle.ip_codec.specs.declared.items.Item.{Item}
use Rattle.verdict_core.specs.Fitting.{ipv4_bytes, IsSendable}

pub is_sendable : (i : Item) (room : ℕ) (bytes : List ℕ) (packet : Packet4) → ipv4_bytes i ≡ Some bytes → ip4_of bytes ≡ Ok packet →
    is_fragment packet ≡ false → 2 ≤ packet.ttl → (packet.df ≡ true → packet_len packet ≤ room) → IsSendable i room
is_sendable i room bytes packet has reads whole alive fits = record {
  packet = packet;
  carried = (bytes, has, reads);
  whole = whole;
  alive = alive;
  fits = fits;
}
