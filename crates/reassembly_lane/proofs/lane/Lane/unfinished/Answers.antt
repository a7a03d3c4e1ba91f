use Rattle.std.proofs.Common.{ap, subst, ◌∙◌}
use Rattle.reassembly_lane.specs.Lanes.{first_numbers}
use Rattle.reassembly_lane.specs.Numbers.{IsAscending}
use Rattle.reassembly_lane.proofs.Zips.{firsts}
use Rattle.reassembly_lane.proofs.lane.Lane.unfinished.Goals as goal

pub returns-clause-history : goal.returns-clause-history
returns-clause-history g c = λ history s. firsts g.K.Ord.cmp history c.args.self.now c.ascending.result (subst (λ l. IsAscending l c.ascending.result) (c.in_ok-all_numbers.ensures ∙ ap first_numbers c.self.view_is) c.ascending.ensures) s
