-- How many words a lookup of an owner reads of a table, at most.
use Rattle.std.specs.Prelude.{◌≡◌, ℕ, ◌+◌, ◌≤◌, false, List, Option, IfSome}
use Rattle.aftr_base.specs.declared.numbers.V6.{V6}
use Rattle.binding_rules.specs.Tables.{BindingTable}
use Rattle.table_words.specs.Bounds.{found_bound, look_bound}
use Rattle.table_words.specs.Layout.{IsCompiled, has_two_shapes}

-- From so many steps to so many a lookup over this list has this answer. The smaller bound holds where an owner is found, and whatever the
-- answer where no address has two shapes.
pub record IsBounded (list : List ℕ) (end : Option V6) (old new : ℕ) : Type 0 where
  pub bound : (t : BindingTable) → IsCompiled t list → new ≤ old + look_bound t.bindings
  pub found : IfSome end (λ _. (t : BindingTable) → IsCompiled t list → new ≤ old + found_bound t.bindings)
  pub one_shape : (t : BindingTable) → IsCompiled t list → has_two_shapes t.bindings ≡ false → new ≤ old + found_bound t.bindings
