-- What lookups read, and one behind another.
use Rattle.std.proofs.Common.{◌≡◌, ℕ, ◌+◌, ◌-◌, ◌≤◌, List, Option, Some, None, refl, ap, ◌∙◌, arith, inl, inr}
use Rattle.aftr_base.specs.declared.numbers.V6.{V6}
use Rattle.binding_rules.specs.Tables.{BindingTable}
use Rattle.table_words.specs.Reads.{read_more}
use Rattle.table_words.specs.Spent.{IsBounded}
use Rattle.table_words.specs.declared.reader.Words.{Ghosts}
use Rattle.table_words.proofs.Laws.{reads_on}
use Rattle.verdict_core.specs.Bounds.{IsLook, IsWithin, Reads}

pub looks_once : (t : BindingTable) (n : ℕ) → IsLook t n → 1 ≤ n
looks_once t n (inl is) = omega (arith, is)
looks_once t n (inr is) = omega (arith, is.1)

pub one_look : {list : List ℕ} {end : Option V6} {old new : ℕ} → IsBounded list end old new → IsWithin (λ n. n) list old new
one_look b t h n (inl is) = omega (arith, b.bound t h, is)
one_look b t h n (inr is) = omega (arith, b.one_shape t h is.0, is.1)

none_more : (r : Option ℕ) (a : ℕ) → r ≡ read_more r (a - a)
none_more None a = refl
none_more (Some k) a = ap Some (omega arith)

pub reads_none : {W : Type 0} (g : Ghosts W) → ((x : W) → g.goes x x) → (x : W) (a : ℕ) → Reads g x x a a
reads_none g stays x a = record { list = refl; reads = none_more (g.reads x) a; goes = stays x; later = omega arith }

module _ {W : Type 0} (g : Ghosts W) (x y : W) (a b : ℕ) where
  pub reads_so_many : (n : ℕ) → g.list y ≡ g.list x → g.reads y ≡ read_more (g.reads x) n → g.goes x y → b ≡ a + n → Reads g x y a b
  reads_so_many n same more goes steps = record {
    list = same;
    reads = more ∙ ap (λ (k : ℕ). read_more (g.reads x) k) (omega (arith, steps));
    goes = goes;
    later = omega (arith, steps);
  }

  pub reads_then : ((x y z : W) → g.goes x y → g.goes y z → g.goes x z) → (z : W) (c : ℕ) → Reads g x y a b → Reads g y z b c → Reads g x z a c
  reads_then goes_on z c first second = record {
    list = second.list ∙ first.list;
    reads = reads_on (g.reads x) (g.reads y) (g.reads z) (b - a) (c - b) (c - a) (omega (arith, first.later, second.later)) first.reads second.reads;
    goes = goes_on x y z first.goes second.goes;
    later = omega (arith, first.later, second.later);
  }
