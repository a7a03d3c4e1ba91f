-- What is written at the end of a run.
use Rattle.lwaftr_engine.proofs.Words.{Contents, refl, Ends, Err, Fault, Finishes, FinishesPart, IfErr, IfOk, List, Moves, Ok, OnOk, OthersKept, Progress, Rec, Result}
use Rattle.lwaftr_engine.proofs.Words.{Setup, SinkState, Stands, WrittenFiles, Did, DidFront, ap, has_failed, inl, inr, last_line, last_lines, last_log}
use Rattle.lwaftr_engine.proofs.Words.{last_round, last_versions, option_map, outputs_of, take, Option, Step, did_none, Rises, ℕ, ◌++◌, ◌≡◌}
use Rattle.lwaftr_engine.proofs.Exits.{if_err}
use Rattle.lwaftr_engine.proofs.Moving.{moves_by, moves_none}

-- what is left to be written: lines of tables, lines of unfinished datagrams, and the summary
pub record IsLeft (x : Setup) (p : Progress) (points versions lines line : List ℕ) : Type 0 where
  pub versions_are : versions ≡ last_versions x p points
  pub lines_are : (taken : List Rec) → Stands p.stage taken → lines ≡ last_lines p taken
  pub line_is : line ≡ last_line p points

module _ (x : Setup) (p : Progress) (points : List ℕ) {versions lines line : List ℕ} (left : IsLeft x p points versions lines line) where
  all_did : (m n : Contents) → Did x.run (last_log versions lines) m n → (taken : List Rec) → Stands p.stage taken →
      Did x.run (last_log (last_versions x p points) (last_lines p taken)) m n
  all_did m n did taken stands = rw (left.versions_are, left.lines_are taken stands) at did

  pub finished : (r : Result Unit Fault) (a b : WrittenFiles) (said now : SinkState) → Ends (outputs_of x.run) r (last_log versions lines) line a b said now →
      IfOk r (λ _. Moves a.held b.held (Finishes x p points said.out now.out))
  finished (Ok done) a b said now (logged, puts) =
      moves_by a.held b.held (Did x.run (last_log versions lines)) _
      (λ m n did taken stands. record { did = all_did m n did taken stands; took = rw left.line_is at puts.out }) logged.held
  finished (Err why) a b said now ends = tt

  pub cut : (r : Result Unit Fault) (a b : WrittenFiles) (said now : SinkState) → Ends (outputs_of x.run) r (last_log versions lines) line a b said now →
      IfErr r (λ _. Moves a.held b.held (FinishesPart x p points (has_failed r) a.spoiled b.spoiled said.out now.out))
  cut (Ok done) a b said now ends = tt
  cut (Err why) a b said now (inl ((count, front), same)) =
      moves_by a.held b.held (Did x.run (take count (last_log versions lines))) _
      (λ m n did taken stands.
      let part = rw (left.versions_are, left.lines_are taken stands) at did in
      inl (front.spoiled, ((count, part), ap (λ (s : SinkState). s.out) same)))
      front.held
  cut (Err why) a b said now (inr (logged, puts)) =
      let took = rw left.line_is at puts.out in
      moves_by a.held b.held (Did x.run (last_log versions lines)) _
      (λ m n did taken stands. inr (logged.spoiled, (all_did m n did taken stands, (took.0, took.2)))) logged.held

  pub others_kept : (r : Result Unit Fault) (a b : WrittenFiles) (said now : SinkState) → Ends (outputs_of x.run) r (last_log versions lines) line a b said now →
      Moves a.held b.held (OthersKept x.run)
  others_kept (Ok done) a b said now (logged, puts) =
      moves_by a.held b.held (Did x.run (last_log versions lines)) _ (λ m n did. did.others) logged.held
  others_kept (Err why) a b said now (inl ((count, front), same)) =
      moves_by a.held b.held (Did x.run (take count (last_log versions lines))) _ (λ m n did. did.others) front.held
  others_kept (Err why) a b said now (inr (logged, puts)) =
      moves_by a.held b.held (Did x.run (last_log versions lines)) _ (λ m n did. did.others) logged.held

  pub line_put : (r : Result Unit Fault) (a b : WrittenFiles) (said now : SinkState) → Ends (outputs_of x.run) r (last_log versions lines) line a b said now →
      OnOk r (now.out ≡ option_map (λ taken. taken ++ last_line p points) said.out)
  line_put (Ok done) a b said now (logged, puts) = rw left.line_is at puts.out
  line_put (Err why) a b said now ends = tt

-- nothing was written
pub none_cut : (x : Setup) (p : Progress) (points : List ℕ) (r : Result Unit Fault) (a : WrittenFiles) (said : Option (List ℕ)) →
    Rises (has_failed r) a.spoiled a.spoiled → IfErr r (λ _. Moves a.held a.held (FinishesPart x p points (has_failed r) a.spoiled a.spoiled said said))
none_cut x p points r a said rises =
    if_err _ r (moves_none a.held a.held _ (λ m taken stands. inl (rises, ((0, did_none (outputs_of x.run) m), refl))) refl)
