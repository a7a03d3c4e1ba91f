use Rattle.std.proofs.Common.{ℕ, List, [], ◌∷◌, ◌++◌, map, ap, sym, ◌∙◌}
use Rattle.std.proofs.lemmas.List.{map_push}
use Rattle.worker_gate.specs.declared.outcomes.Outcome.{Outcome}
use Rattle.worker_gate.specs.OutcomeLists.{number_of}
use Rattle.worker_gate.proofs.outcome_list.OutcomeList.push.Goals as goal

pub invariant_of-self : goal.invariant_of-self
invariant_of-self c =
    c.push_reserved.ensures.items ∙ ap (λ (l : List ℕ). l ++ c.args.outcome.number ∷ []) c.self.invariant
    ∙ sym (map_push number_of c.self.inside.outcomes.items c.args.outcome)
    ∙ ap (λ (l : List Outcome). map number_of l) (sym c.push_reserved-2.ensures.items)
