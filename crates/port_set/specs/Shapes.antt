-- The two numbers by which an address is shared (RFC 7597 section 5.1).
use Rattle.std.specs.Prelude.{ℕ, ◌+◌, ◌<◌, ◌≤◌, ◌⊎◌}

-- how many bits of a port come before the identifier (a), and how many bits the identifier has (k)
pub record PortBits : Type 0 where
  pub offset : ℕ
  pub length : ℕ

-- both fit into the 16 bits of a port, and the offset leaves at least one
pub record IsShape (a k : ℕ) : Type 0 where
  pub offset_fits : a ≤ 15
  pub sum_fits : a + k ≤ 16

-- the two numbers are no shape
abbrev pub IsNoShape : ℕ → ℕ → Type 0
IsNoShape a k = (15 < a) ⊎ ((16 < k) ⊎ (16 < a + k))
