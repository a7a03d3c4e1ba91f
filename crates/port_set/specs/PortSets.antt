-- The port set of an identifier (RFC 7597 section 5.1). Below, a is the offset, k the length of the identifier, s the
-- identifier and p a port. The bits of a port from the top are the a bits of the offset, the k bits of the identifier
-- and the 16 - a - k bits after it.
use Rattle.std.specs.Prelude.{◌≡◌, ℕ, ◌-◌, ◌/◌, ◌%◌, ◌^◌, ◌<◌, ◌⊎◌, Bool, ◌==◌, nat_lt, ◌&&◌, ◌||◌, List, filter}
use Rattle.std.specs.List.{range_with_len}

-- the port is a member of the set of the identifier
pub record InSet (a k s p : ℕ) : Type 0 where
  pub is_port : p < 65536
  pub identifier : p / 2 ^ (16 - a - k) % 2 ^ k ≡ s
  pub not_low : (a ≡ 0) ⊎ (0 < p / 2 ^ (16 - a))

-- the offset is above 0, and all its bits are 0 in the port: no identifier owns it
pub record IsLow (a p : ℕ) : Type 0 where
  pub with_offset : 0 < a
  pub offset_bits : p / 2 ^ (16 - a) ≡ 0

-- the port belongs to this identifier, and to no other
pub record IsOwner (a k s p : ℕ) : Type 0 where
  pub fits : s < 2 ^ k
  pub owns : InSet a k s p
  pub alone : (t : ℕ) → InSet a k t p → t ≡ s

-- two identifiers of one shape own no port in common
abbrev pub OwnersAreApart : ℕ → ℕ → Type 0
OwnersAreApart a k = (s t p : ℕ) → InSet a k s p → InSet a k t p → s ≡ t

-- the identifiers of one shape own together each port that is not low
abbrev pub OwnersShareAll : ℕ → ℕ → Type 0
OwnersShareAll a k = (p : ℕ) → p < 65536 → IsLow a p ⊎ ((s : ℕ) × (s < 2 ^ k) × InSet a k s p)

-- membership as a test
abbrev pub in_set : ℕ → ℕ → ℕ → ℕ → Bool
in_set a k s p = (p / 2 ^ (16 - a - k) % 2 ^ k == s) && (a == 0 || nat_lt 0 (p / 2 ^ (16 - a)))

-- how many ports there are; not an `abbrev`, so that no proof counts them out
unfoldable pub port_count : ℕ
port_count = 65536

-- the members of the set, ascending: of all ports those that pass the test
unfoldable pub owned_ports : ℕ → ℕ → ℕ → List ℕ
owned_ports a k s = filter (in_set a k s) (range_with_len 0 port_count)
