use Rattle.std.proofs.Common.{ℕ, sym, subst}
use Rattle.std.proofs.lemmas.List.Sorted.{IsNonDecreasingBy-from_sort}
use Rattle.reassembly_lane.specs.Numbers.{IsAscending}
use Rattle.reassembly_lane.proofs.late.ascending.Goals as goal

pub returns : goal.returns
returns c = subst (IsAscending c.args.numbers.items) (sym c.of.ensures) (record {
  same = c.sort_unstable.ensures.permutation;
  ascending = IsNonDecreasingBy-from_sort (λ (x : ℕ). x) c.sort_unstable.new.self.items c.sort_unstable.ensures.sorted;
})
