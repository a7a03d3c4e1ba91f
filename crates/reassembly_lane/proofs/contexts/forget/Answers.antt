use Rattle.std.proofs.Common.{rules}
use Rattle.std.proofs.lemmas.Map.Made.{filter_same_pairs}
use Rattle.reassembly_lane.specs.Lanes.{waits}
use Rattle.reassembly_lane.proofs.contexts.forget.Goals as goal

pub returns : goal.returns
returns g c = filter_same_pairs _ (λ e. waits c.args.time e.1.begun) _ (λ k v b w f' t. search rules) _ _ c.retain.ensures.filtered
