-- What the test of the rules may cost: a step for each place, slot or pair that is looked at.
use Rattle.std.specs.Prelude.{ℕ, ◌+◌, ◌*◌, ◌==◌, Bool, true, false, ◌||◌, if◌then◌else◌, List, [], ◌∷◌, length}
use Rattle.port_set.specs.PortSets.{owned_ports}
use Rattle.binding_rules.specs.declared.binding.Binding.{Binding}

-- how many bindings have the address
abbrev pub count_of : ℕ → List Binding → ℕ
count_of a [] = 0
count_of a (x ∷ xs) = (if x.v4.0 == a then 1 else 0) + count_of a xs

-- a binding has the address
abbrev pub has_some : ℕ → List Binding → Bool
has_some a [] = false
has_some a (x ∷ xs) = (x.v4.0 == a) || has_some a xs

-- how many addresses the bindings have: each is counted where it stands last
abbrev pub addresses : List Binding → ℕ
addresses [] = 0
addresses (x ∷ xs) = (if has_some x.v4.0 xs then 0 else 1) + addresses xs

-- a step for each port of the binding
abbrev pub port_steps : Binding → ℕ
port_steps x = length (owned_ports x.offset x.length x.psid)

-- the slots of the ports are looked at and then taken; an identifier has one slot
abbrev pub meet_steps : Bool → Binding → ℕ
meet_steps true x = 2 * port_steps x
meet_steps false x = 1
