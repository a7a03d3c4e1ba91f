-- The tables of areas are those of their plan.
use Rattle.std.proofs.Common.{◌≡◌, All, subst, sym}
use Rattle.swap_core.specs.Plans.{Tables}
use Rattle.table_words.specs.Layout.{AreCompiled}

pub same_compiled : (p q : Tables) → q ≡ p → All AreCompiled p.tables → All AreCompiled q.tables
same_compiled p q same h = let P : Tables → Type 0 = λ t. All AreCompiled t.tables in subst P (sym same) h
