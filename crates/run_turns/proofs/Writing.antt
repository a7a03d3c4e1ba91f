-- What the files hold by what was written of a round.
use Rattle.run_turns.proofs.Words.{◌≡◌, ℕ, ◌-◌, List, [], length, take, ◌∙◌, Contents, content, RunJob, Wrote, Did, DidFront, holds_round, round_log}
use Rattle.run_turns.proofs.Words.{ap, arith, cases_lt, inl, inr, refl, Step, take-length, take_all, take_round}
use Rattle.run_turns.proofs.Going.{wrote_same}
use Rattle.output_journal.specs.declared.names.Output.TheVariants as output

-- what was done whole was done to a front
pub front_of_all : (run : RunJob) (steps : List Step) (m n : Contents) → Did run steps m n → DidFront run steps m n
front_of_all run steps m n did = (length steps, rw (take-length steps) did)

-- a round is written
pub wrote : (run : RunJob) (versions packets lines : List ℕ) (m n : Contents) → Did run (round_log versions packets lines) m n →
    Wrote run versions packets lines m n
wrote run versions packets lines m n did = record {
  versions_is = did.files output.Versions ∙ holds_round output.Versions versions packets lines (content m run.versions);
  output = did.files output.Packets ∙ holds_round output.Packets versions packets lines (content m run.output);
  verdicts = did.files output.Verdicts ∙ holds_round output.Verdicts versions packets lines (content m run.verdicts);
  others = did.others;
}

-- a round is written to a front: of its lines of tables, or all of them and fronts of the others
pub data WroteFront (run : RunJob) (versions packets lines : List ℕ) (old new : Contents) : Type 0 where
  in_tables : (count : ℕ) → Wrote run (take count versions) [] [] old new → WroteFront run versions packets lines old new
  in_others : (p l : ℕ) → Wrote run versions (take p packets) (take l lines) old new → WroteFront run versions packets lines old new

pub wrote_front : (run : RunJob) (versions packets lines : List ℕ) (m n : Contents) → DidFront run (round_log versions packets lines) m n →
    WroteFront run versions packets lines m n
wrote_front run versions packets lines m n (count, did) =
    let k = count - length versions in
    let l = k - length packets in
    let w = wrote run (take count versions) (take k packets) (take l lines) m n (rw (← (take_round count versions packets lines)) did) in
    elim (cases_lt count (length versions)) [
      | inl less ↦
          let none : count - length versions ≡ 0 = omega arith in
          let nor : count - length versions - length packets ≡ 0 = omega arith in
          in_tables count (wrote_same (refl, ap (λ (x : ℕ). take x packets) none, ap (λ (x : ℕ). take x lines) nor) w)
      | inr more ↦ in_others k l (wrote_same (take_all count versions more, refl, refl) w)
    ]
