-- What the lookups answer.
use Rattle.std.specs.Prelude.{Bool, true, false, ◌==◌, List, [], ◌∷◌, Option, Some, None}
use Rattle.std.specs.List.{list_any}
use Rattle.aftr_base.specs.declared.numbers.V4.{V4}
use Rattle.aftr_base.specs.declared.numbers.V6.{V6}
use Rattle.binding_rules.specs.declared.binding.Binding.{Binding}
use Rattle.table_words.specs.declared.destination.Destination.{Destination}
use Rattle.table_words.specs.declared.destination.Destination.TheVariants as destination

-- the end of the first one's tunnel; of the owners of a port a valid table has at most one
abbrev pub first_b4 : List Binding → Option V6
first_b4 [] = None
first_b4 (x ∷ xs) = Some x.b4

-- some binding has the address
abbrev pub has_v4 : List Binding → V4 → Bool
has_v4 bindings v4 = list_any (λ b. b.v4.0 == v4.0) bindings

-- whether a destination's address has a binding
abbrev pub has_binding : Destination → Bool
has_binding destination.Unbound = false
has_binding destination.Unowned = true
has_binding (destination.Owned end) = true

-- the end of the tunnel of a destination's owner
abbrev pub tunnel_of : Destination → Option V6
tunnel_of destination.Unbound = None
tunnel_of destination.Unowned = None
tunnel_of (destination.Owned end) = Some end
