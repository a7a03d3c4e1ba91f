-- The ports of an identifier by their places in the ascending list. Below, a is the offset, k the length of the
-- identifier, s the identifier and j a place. No public contract cites these.
use Rattle.std.specs.Prelude.{ℕ, ◌+◌, ◌-◌, ◌*◌, ◌/◌, ◌%◌, ◌^◌, ◌<◌, ◌≤◌, min, List, map}
use Rattle.std.specs.List.{range_with_len}
use Rattle.port_set.specs.Shapes.{IsShape}

-- the least value of the offset's bits in an owned port
abbrev pub first_block : ℕ → ℕ
first_block a = min a 1

-- how many ports an identifier owns
abbrev pub owned_count : ℕ → ℕ → ℕ
owned_count a k = (2 ^ a - first_block a) * 2 ^ (16 - a - k)

-- the owned port at a place
abbrev pub port_at : ℕ → ℕ → ℕ → ℕ → ℕ
port_at a k s j = ((j / 2 ^ (16 - a - k) + first_block a) * 2 ^ k + s) * 2 ^ (16 - a - k) + j % 2 ^ (16 - a - k)

-- the owned ports from one place up to another
abbrev pub ports_between : ℕ → ℕ → ℕ → ℕ → ℕ → List ℕ
ports_between a k s from to = map (port_at a k s) (range_with_len from (to - from))

-- the two are places of the list, in order
pub record IsPlaceRange (a k s from to : ℕ) : Type 0 where
  pub shape : IsShape a k
  pub psid : s < 2 ^ k
  pub ordered : from ≤ to
  pub within : to ≤ owned_count a k
