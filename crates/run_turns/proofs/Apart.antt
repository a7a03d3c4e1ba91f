-- The outputs of a run are files of their own.
use Rattle.run_turns.proofs.Words.{◌≡◌, ℕ, ◌+◌, Bool, true, false, List, [], ◌∷◌, refl, sym, ◌∙◌, arith, map, cond, bytes_eq, sum_by, sum_by-cons}
use Rattle.run_turns.proofs.Words.{bytes_eq-Decides, AreApart, StandsOnce, names_of, LoadWords, RunJob, AreDistinct, outputs_of}
use Rattle.aftr_text.specs.Jobs.{how_many}

abbrev is_same : List ℕ → List ℕ → ℕ
is_same name other = cond (bytes_eq other name) 1 0

abbrev times : List ℕ → List (List ℕ) → ℕ
times name names = sum_by (is_same name) names

once : (name : List ℕ) (names : List (List ℕ)) → StandsOnce names name → times name names ≡ 1
unfolding how_many
once name names e = e

same_by : (x y : List ℕ) (b : Bool) → bytes_eq x y ≡ b → x ≡ y → (let k : ℕ = cond b 1 0 in k) ≡ 1
same_by x y true is e = refl
same_by x y false is e = absurd (cc ((bytes_eq-Decides x y).1 e, is))

same_one : (x y : List ℕ) → x ≡ y → is_same y x ≡ 1
same_one x y e = same_by x y (bytes_eq x y) refl e

-- how often a name stands among the five and the loads
five : (name a b c d e : List ℕ) (rest : List (List ℕ)) →
    times name (a ∷ b ∷ c ∷ d ∷ e ∷ rest) ≡ is_same name a + (is_same name b + (is_same name c + (is_same name d + (is_same name e + times name rest))))
five name a b c d e rest = simp sum_by-cons

module _ (run : RunJob) where
  abbrev total : List ℕ → ℕ
  total name =
      is_same name run.input + (is_same name run.output + (is_same name run.verdicts + (is_same name run.versions + (is_same name run.table
      + times name (map (λ (load : LoadWords). load.name) run.loads)))))

  one : (name : List ℕ) → StandsOnce (names_of run) name → total name ≡ 1
  one name stands =
      sym (five name run.input run.output run.verdicts run.versions run.table (map (λ (load : LoadWords). load.name) run.loads)) ∙ once name (names_of run)
      stands

  -- the names of the outputs differ from each other
  pub apart : AreApart run → AreDistinct (outputs_of run)
  apart h =
      let out = one run.output (h 0 [] (omega arith)) in
      let verdicts = one run.verdicts (h 1 [] (omega arith)) in
      let versions = one run.versions (h 2 [] (omega arith)) in
      record {
        packets_verdicts = λ e. absurd (omega (arith, out, same_one run.output run.output refl, same_one run.verdicts run.output (sym e)));
        packets_versions = λ e. absurd (omega (arith, out, same_one run.output run.output refl, same_one run.versions run.output (sym e)));
        verdicts_versions = λ e. absurd (omega (arith, verdicts, same_one run.verdicts run.verdicts refl, same_one run.versions run.verdicts (sym e)));
      }
