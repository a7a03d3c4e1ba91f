-- An outcome that is put down first, and whose verdict is written where it stands.
use Rattle.std.proofs.Common.{◌≡◌, ℕ, List, [], ◌∷◌, ◌++◌, length, map, get_or, set, ap, sym, ◌∙◌}
use Rattle.std.proofs.Math.Seq.{get_or-append_seam, set-append_seam}
use Rattle.std.proofs.lemmas.List.{map_push}
use Rattle.verdict_core.specs.declared.verdicts.Verdict.{Verdict}
use Rattle.worker_gate.specs.declared.outcomes.Outcome.{Outcome}
use Rattle.worker_gate.specs.OutcomeLists.{number_of}

module _ (before : List Outcome) (put : Outcome) (verdict : Verdict) where
  abbrev judged : Outcome → Outcome
  judged o = record { number = o.number; version = o.version; verdict = verdict }

  module _ (now : List Outcome) (is_put : now ≡ before ++ put ∷ []) (last : ℕ) (is_last : last ≡ length before) (there : Outcome)
      (stands : there ≡ get_or now last there) where
    there_is : there ≡ put
    there_is =
        stands ∙ ap (λ (l : List Outcome). get_or l last there) is_put ∙ ap (λ (n : ℕ). get_or (before ++ put ∷ []) n there) is_last
        ∙ get_or-append_seam before put [] there

    pub written : set now last (judged there) ≡ before ++ judged put ∷ []
    written =
        ap (λ (l : List Outcome). set l last (judged there)) is_put ∙ ap (λ (n : ℕ). set (before ++ put ∷ []) n (judged there)) is_last
        ∙ set-append_seam before put [] (judged there)
        ∙ ap (λ (o : Outcome). before ++ judged o ∷ []) there_is

    pub still_beside : (numbers more : List ℕ) → numbers ≡ map number_of before → more ≡ numbers ++ put.number ∷ [] →
        more ≡ map number_of (set now last (judged there))
    still_beside numbers more beside is_more =
        is_more ∙ ap (λ (l : List ℕ). l ++ put.number ∷ []) beside ∙ sym (map_push number_of before (judged put))
        ∙ sym (ap (λ (l : List Outcome). map number_of l) written)
