-- What becomes of records. All of it is ours.
use Rattle.std.specs.Prelude.{◌≡◌, ℕ, ◌+◌, ◌-◌, ◌≤◌, Bool, true, false, cond, List, [], ◌∷◌, Option, Some, slice_get, sum_by}
use Rattle.binding_rules.specs.Tables.{BindingTable}
use Rattle.ip_codec.specs.declared.items.Item.{Item}
use Rattle.ip_codec.specs.declared.items.Item.TheVariants as item
use Rattle.swap_core.specs.Plans.{Tables, table}
use Rattle.table_words.specs.Layout.{IsCompiled}
use Rattle.verdict_core.specs.Verdicts.{verdict_of}
use Rattle.worker_gate.specs.declared.outcomes.Outcome.{Outcome}

-- the draw that an outcome is of
abbrev pub draw_of : Outcome → ℕ × ℕ
draw_of o = (o.number, o.version)

-- the numbers ascend, from the first number on, and are below the last
abbrev pub Ascends : ℕ → List Outcome → ℕ → Type 0
Ascends first [] last = first ≤ last
Ascends first (o ∷ os) last = (first ≤ o.number) × Ascends (o.number + 1) os last

-- The verdict is that on the record's item under the table of the record's version. The first of the items is that of the
-- record with the number `start`.
abbrev pub IsJudged : Tables → List Item → ℕ → Outcome → Type 0
IsJudged p items start o =
    (t : BindingTable) (i : Item) → IsCompiled t (table p o.version) → slice_get items (o.number - start) ≡ Some i
    → o.verdict ≡ verdict_of t i

-- a verdict on the item asks the table
abbrev pub asks : Option Item → Bool
asks (Some item.Held) = false
asks (Some (item.Bad why)) = false
asks (Some _) = true
asks _ = false

-- how many of these draws are of records whose items ask the table
abbrev pub asking : List Item → ℕ → List (ℕ × ℕ) → ℕ
asking items start draws = sum_by (λ (d : ℕ × ℕ). cond (asks (slice_get items (d.0 - start))) 1 0) draws
