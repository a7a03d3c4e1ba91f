-- Packets that are put behind what a list holds.
use Rattle.std.specs.Prelude.{◌≡◌, ℕ, ◌-◌, List, ◌++◌, length}
use Rattle.std.specs.List.{flat_map}
use Rattle.ip_codec.specs.Packet4.{Packet4}

-- so many packets stand behind what was there, each as it is recorded
pub record ArePushed (recorded : List ℕ → List ℕ) (packets : List (List ℕ)) (before after : List ℕ) (count : ℕ) : Type 0 where
  pub bytes : after ≡ before ++ flat_map recorded packets
  pub many : count ≡ length packets

-- the packet with its time to live one less in the field alone, and not in the bytes of its header
abbrev pub one_hop_on : Packet4 → Packet4
one_hop_on packet = record packet { ttl = packet.ttl - 1 }
