-- Whether some entry has an address.
use Rattle.std.proofs.Common.{◌≡◌, ℕ, ◌/◌, ◌<◌, ◌≤◌, Bool, true, false, eqb, List, sym, ap, ◌∙◌}
use Rattle.std.proofs.lemmas.Bool.{eq-eqb, ne_eqb}
use Rattle.aftr_base.specs.declared.numbers.V4.{V4}
use Rattle.binding_rules.specs.Tables.{BindingTable}
use Rattle.binding_rules.specs.declared.binding.Binding.{Binding}
use Rattle.table_words.specs.Answers.{has_v4}
use Rattle.table_words.specs.Spans.{first_at, IsIndexGroup, TellsAddress}
use Rattle.table_words.proofs.Filters.{any_passes, any_fails}

-- what the entries tell is so of the bindings
pub address_told : (t : BindingTable) (words : List ℕ) (v4 : V4) (from to : ℕ) → IsIndexGroup t words v4.0 from to
    → (b : Bool) → TellsAddress words from to v4.0 b → b ≡ has_v4 t.bindings v4
address_told t words v4 from to group true told =
    let b = group.entries told.0 told.1 told.2 in
    sym (any_passes (λ (x : Binding). eqb x.v4.0 v4.0) t.bindings b.0 b.1 (eq-eqb _ _ (b.2.first.like.v4 ∙ told.3)))
address_told t words v4 from to group false told =
    sym (any_fails (λ (x : Binding). eqb x.v4.0 v4.0) t.bindings (λ x m. ne_eqb _ _ (λ same.
    let c = group.members x m same in
    told c.0 c.1 c.2 (sym c.3.first.like.v4 ∙ same))))

-- the entry at a place has the address
pub address_at : (words : List ℕ) (from to a at word : ℕ) → from ≤ at → at < to → word ≡ first_at words at → word / 4294967296 ≡ a
    → TellsAddress words from to a true
address_at words from to a at word l m e same = (at, l, m, ap (λ (n : ℕ). n / 4294967296) (sym e) ∙ same)
