-- When the datagrams of a lane began.
use Rattle.std.specs.Prelude.{ℕ, ◌≤◌, List}
use Rattle.std.specs.List.{All}
use Rattle.std.specs.Map.{values_of}
use Rattle.reassembly_lane.specs.Contexts.{Partial}

-- none began before a time
abbrev pub Since : {K : Type 0} → ℕ → List (K × Partial) → Type 0
Since bound es = All (λ partial. bound ≤ partial.begun) (values_of es)
