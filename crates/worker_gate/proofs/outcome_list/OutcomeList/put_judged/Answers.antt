use Rattle.std.proofs.Common.{ℕ, [], ◌∷◌, ◌++◌, ap, ◌∙◌}
use Rattle.std.specs.Prelude.{min, vec_capacity}
use Rattle.verdict_core.specs.declared.verdicts.Verdict.TheVariants as verdict
use Rattle.worker_gate.specs.OutcomeLists.{OutcomeListValue}
use Rattle.worker_gate.specs.declared.outcomes.Outcome.{Outcome}
use Rattle.worker_gate.proofs.Placed.{still_beside, written}
use Rattle.worker_gate.proofs.outcome_list.OutcomeList.put_judged.Goals as goal

pub invariant_of-self : goal.invariant_of-self
invariant_of-self g c =
    let put : Outcome = record { number = c.args.drawn.number; version = c.args.drawn.version; verdict = verdict.Held } in
    still_beside c.self.inside.outcomes.items put c.judge_held.new.verdict c.push_reserved-2.new.self.items c.push_reserved-2.ensures.items
    c.len-last.result (c.len-last.ensures ∙ c.self.inside.outcomes.ok.0) c.index_mut-outcome.result.now c.index_mut-outcome.ensures.value
    c.self.inside.numbers.items c.push_reserved.new.self.items c.self.invariant c.push_reserved.ensures.items

pub returns-clause-judged : goal.returns-clause-judged
returns-clause-judged g c =
    let put : Outcome = record { number = c.args.drawn.number; version = c.args.drawn.version; verdict = verdict.Held } in
    record {
      verdict = c.judge_held.new.verdict;
      items =
          written c.self.inside.outcomes.items put c.judge_held.new.verdict c.push_reserved-2.new.self.items c.push_reserved-2.ensures.items
          c.len-last.result (c.len-last.ensures ∙ c.self.inside.outcomes.ok.0) c.index_mut-outcome.result.now c.index_mut-outcome.ensures.value
          ∙ ap (λ (x : OutcomeListValue). x.items ++ (record put { verdict = c.judge_held.new.verdict }) ∷ []) c.self.view_is;
      value = c.judge_held.ensures.value;
      same_room =
          ap (λ (n : ℕ). min n (vec_capacity c.push_reserved.new.self)) c.push_reserved-2.ensures.capacity
          ∙ ap (λ (n : ℕ). min (vec_capacity c.self.inside.outcomes) n) c.push_reserved.ensures.capacity
          ∙ ap (λ (x : OutcomeListValue). x.room) c.self.view_is;
    }
