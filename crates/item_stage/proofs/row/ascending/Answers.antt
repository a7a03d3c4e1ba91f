use Rattle.std.proofs.Common.{ℕ, ◌∙◌}
use Rattle.std.proofs.lemmas.List.Sorted.{IsNonDecreasingBy-from_sort}
use Rattle.item_stage.proofs.OrderLemmas.{ascending_is}
use Rattle.item_stage.proofs.row.ascending.Goals as goal

pub returns : goal.returns
returns c =
    c.of.ensures
    ∙ ascending_is c.args.numbers.items c.sort_unstable.new.self.items c.sort_unstable.ensures.permutation
    (IsNonDecreasingBy-from_sort (λ (x : ℕ). x) c.sort_unstable.new.self.items c.sort_unstable.ensures.sorted)
