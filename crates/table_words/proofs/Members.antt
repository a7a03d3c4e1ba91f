-- Bindings and the words of their entries.
use Rattle.std.proofs.Common.{◌≡◌, zero, suc, ◌^◌, ◌<◌, ◌≤◌, Some, List, [], ◌∷◌, map, Contains, ap, ◌∙◌, arith}
use Rattle.std.specs.Prelude.{slice_get}
use Rattle.std.proofs.Math.Pow.{pow_mono}
use Rattle.std.proofs.lemmas.Option.{slice_get-get_or}
use Rattle.binding_rules.specs.Tables.{BindingTable, IsLawful}
use Rattle.port_set.specs.Shapes.{IsShape}
use Rattle.binding_rules.specs.declared.binding.Binding.{Binding}
use Rattle.aftr_base.proofs.MemberLemmas.{contains_after, contains_front}

pub contains_map : {X Y : Type 0} (f : X → Y) (xs : List X) (x : X) → Contains xs x → Contains (map f xs) (f x)
contains_map f [] y (k, l, e) = absurd (omega arith)
contains_map f (x ∷ xs) y (zero, l, e) = (0, omega arith, ap f e)
contains_map f (x ∷ xs) y (suc k, l, e) = contains_after (f x) (map f xs) (f y) (contains_map f xs y (k, omega arith, e))

pub contains_from_map : {X Y : Type 0} (f : X → Y) (xs : List X) (y : Y) → Contains (map f xs) y → (x : X) × Contains xs x × (f x ≡ y)
contains_from_map f [] y (k, l, e) = absurd (omega arith)
contains_from_map f (x ∷ xs) y (zero, l, e) = (x, contains_front x xs, e)
contains_from_map f (x ∷ xs) y (suc k, l, e) =
    let rest = contains_from_map f xs y (k, omega arith, e) in
    (rest.0, contains_after x xs rest.0 rest.1, rest.2)

-- what is known of each binding of a table
pub record IsKnown (x : Binding) : Type 0 where
  pub shape : IsShape x.offset x.length
  pub psid_fits : x.psid < 2 ^ x.length
  pub psid : x.psid < 65536

pub known : (t : BindingTable) → IsLawful t → (x : Binding) → Contains t.bindings x → IsKnown x
known t h x m =
    let there : slice_get t.bindings m.0 ≡ Some x = slice_get-get_or t.bindings m.0 x m.1 ∙ ap Some m.2 in
    let shape : IsShape x.offset x.length = h.shapes m.0 x there in
    let psid : x.psid < 2 ^ x.length = h.psids m.0 x there in
    let short : x.length ≤ 16 = omega (arith, shape.sum_fits) in
    let most : 2 ^ x.length ≤ 2 ^ 16 = pow_mono short in
    record { shape = shape; psid_fits = psid; psid = omega (arith, psid, most) }
