-- What the parts of a round add to an output, and a round that is written.
use Rattle.std.proofs.Common.{Err, IsErrAnd, List, Result, [], ap, false, flat_map, refl, subst, sym, ℕ, ◌++◌, ◌∙◌, ◌∷◌, ◌≡◌}
use Rattle.aftr_io.specs.Outside.{Written}
use Rattle.aftr_io.specs.declared.outside.Fault.{Fault}
use Rattle.output_journal.specs.Log.{Logged, Logs, OutputNames, Step, add, adds, round_log}
use Rattle.output_journal.specs.declared.names.Output.{Output}
use Rattle.output_journal.specs.declared.names.Output.TheVariants as output
use Rattle.output_journal.proofs.EntryLemmas.{is_err}
use Rattle.output_journal.proofs.LogLemmas.{logs_join, logs_stop}

adds_append : (file : Output) (a b : List ℕ) → adds file (a ++ b) ≡ adds file a ++ adds file b
adds_append file [] b = refl
adds_append file (byte ∷ a) b = ap (λ (l : List Step). add file byte ∷ l) (adds_append file a b)

adds_flat : {A : Type 0} (file : Output) (f : A → List ℕ) (parts : List A) → flat_map (λ p. adds file (f p)) parts ≡ adds file (flat_map f parts)
adds_flat file f [] = refl
adds_flat file f (p ∷ parts) =
    ap (λ (l : List Step). adds file (f p) ++ l) (adds_flat file f parts) ∙ sym (adds_append file (f p) (flat_map f parts))

module _ (names : OutputNames) (versions : List ℕ) {A : Type 0} (packets lines : A → List ℕ) (parts : List A) (a b c d : Written) where
  abbrev due : List Step
  due = round_log versions (flat_map packets parts) (flat_map lines parts)

  -- a call failed in the lines of tables; in the packets; or in the lines of records, if one failed there
  pub first_cut : (why : Fault) (r : Result Unit Fault) → IsErrAnd r (λ e. e ≡ why) → Logs names (Err why) (adds output.Versions versions) a b →
      Logs names r due a b
  first_cut why r is first =
      rw (is_err r is) (logs_stop names why (adds output.Versions versions)
      (adds output.Packets (flat_map packets parts) ++ adds output.Verdicts (flat_map lines parts)) a b first)

  pub second_cut : (why : Fault) (r : Result Unit Fault) → IsErrAnd r (λ e. e ≡ why) → Logged names false (adds output.Versions versions) a b →
      Logs names (Err why) (flat_map (λ p. adds output.Packets (packets p)) parts) b c → Logs names r due a c
  second_cut why r is first second =
      let there = subst (λ (l : List Step). Logs names (Err why) l b c) (adds_flat output.Packets packets parts) second in
      rw (is_err r is) (logs_join names (Err why) (adds output.Versions versions)
      (adds output.Packets (flat_map packets parts) ++ adds output.Verdicts (flat_map lines parts)) a b c first
      (logs_stop names why (adds output.Packets (flat_map packets parts)) (adds output.Verdicts (flat_map lines parts)) b c there))

  pub third : (r : Result Unit Fault) → Logged names false (adds output.Versions versions) a b →
      Logged names false (flat_map (λ p. adds output.Packets (packets p)) parts) b c →
      Logs names r (flat_map (λ p. adds output.Verdicts (lines p)) parts) c d → Logs names r due a d
  third r first second last =
      let there = subst (λ (l : List Step). Logged names false l b c) (adds_flat output.Packets packets parts) second in
      let at_end = subst (λ (l : List Step). Logs names r l c d) (adds_flat output.Verdicts lines parts) last in
      logs_join names r (adds output.Versions versions) (adds output.Packets (flat_map packets parts) ++ adds output.Verdicts (flat_map lines parts)) a b d first
      (logs_join names r (adds output.Packets (flat_map packets parts)) (adds output.Verdicts (flat_map lines parts)) b c d there at_end)
