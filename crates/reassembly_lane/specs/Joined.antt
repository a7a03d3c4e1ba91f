-- The bytes of parts, one behind the other.
use Rattle.std.specs.Prelude.{ℕ, List, flat_map}
use Rattle.reassembly_lane.specs.declared.parts.Part.{Part}

abbrev pub joined : List Part → List ℕ
joined parts = flat_map (λ part. part.body) parts
