-- Lines that have met.
use Rattle.std.proofs.Common.{List, arith, ap, length, subst, sym, ℕ, ◌+◌, ◌<◌, ◌≤◌, ◌∙◌, ◌≡◌, inl, inr}
use Rattle.std.proofs.lemmas.Bool.{cases_eq}
use Rattle.std.proofs.lemmas.Grind.{get_or-set_at}
use Rattle.std.proofs.lemmas.List.{get_or-set_other, get_or_default}
use Rattle.std.specs.Prelude.{slice_index_or, slice_set}
use Rattle.round_pipeline.specs.declared.capture.ReadEnd.{ReadEnd}
use Rattle.round_pipeline.specs.declared.finished.Seat.{Seat}
use Rattle.round_pipeline.specs.declared.worker.JudgeEnd.{JudgeEnd}
use Rattle.round_pipeline.specs.declared.writer.WriteEnd.{WriteEnd}
use Rattle.round_pipeline.specs.Ends.{HaveMet}

-- one line more has met
module _ {T J : Type 0} (reads0 reads : List (ReadEnd T)) (seats0 seats : List (Seat T J)) (writes0 writes : List (WriteEnd T)) (at : ℕ) where
  pub met_more : (d1 read : ReadEnd T) (d2 : Seat T J) (d3 write : WriteEnd T) → at < length reads → at < length seats → at < length writes →
      ((i : ℕ) (r : ReadEnd T) (j : Seat T J) (w : WriteEnd T) → i < at →
      HaveMet (slice_index_or reads0 i r) (slice_index_or seats0 i j).line (slice_index_or writes0 i w) (slice_index_or reads i r) (slice_index_or writes i w)) →
      ((i : ℕ) (d : ReadEnd T) → at ≤ i → slice_index_or reads i d ≡ slice_index_or reads0 i d) →
      ((i : ℕ) (d : Seat T J) → at ≤ i → slice_index_or seats i d ≡ slice_index_or seats0 i d) →
      ((i : ℕ) (d : WriteEnd T) → at ≤ i → slice_index_or writes i d ≡ slice_index_or writes0 i d) →
      HaveMet (slice_index_or reads at d1) (slice_index_or seats at d2).line (slice_index_or writes at d3) read write →
      (i : ℕ) (r : ReadEnd T) (j : Seat T J) (w : WriteEnd T) → i < at + 1 →
      HaveMet (slice_index_or reads0 i r) (slice_index_or seats0 i j).line (slice_index_or writes0 i w)
      (slice_index_or (slice_set reads at read) i r) (slice_index_or (slice_set writes at write) i w)
  met_more d1 read d2 d3 write f1 f2 f3 met rest1 rest2 rest3 here i r j w below =
      elim (cases_eq i at) [
        | inl same ↦
            let p1 : slice_index_or reads at d1 ≡ slice_index_or reads0 i r = get_or_default reads at d1 r f1 ∙ rest1 at r (omega arith) ∙ ap (λ (k : ℕ). slice_index_or reads0 k r) (sym same) in
            let p2 : slice_index_or seats at d2 ≡ slice_index_or seats0 i j = get_or_default seats at d2 j f2 ∙ rest2 at j (omega arith) ∙ ap (λ (k : ℕ). slice_index_or seats0 k j) (sym same) in
            let p3 : slice_index_or writes at d3 ≡ slice_index_or writes0 i w = get_or_default writes at d3 w f3 ∙ rest3 at w (omega arith) ∙ ap (λ (k : ℕ). slice_index_or writes0 k w) (sym same) in
            let p4 : slice_index_or (slice_set reads at read) i r ≡ read = get_or-set_at reads at i read r same f1 in
            let p5 : slice_index_or (slice_set writes at write) i w ≡ write = get_or-set_at writes at i write w same f3 in
            let P1 : ReadEnd T → Type 0 = λ x. HaveMet x (slice_index_or seats at d2).line (slice_index_or writes at d3) read write in
            let P2 : Seat T J → Type 0 = λ x. HaveMet (slice_index_or reads0 i r) x.line (slice_index_or writes at d3) read write in
            let P3 : WriteEnd T → Type 0 = λ x. HaveMet (slice_index_or reads0 i r) (slice_index_or seats0 i j).line x read write in
            let P4 : ReadEnd T → Type 0 = λ x. HaveMet (slice_index_or reads0 i r) (slice_index_or seats0 i j).line (slice_index_or writes0 i w) x write in
            let P5 : WriteEnd T → Type 0 = λ x.
            HaveMet (slice_index_or reads0 i r) (slice_index_or seats0 i j).line (slice_index_or writes0 i w) (slice_index_or (slice_set reads at read) i r) x in
            subst P5 (sym p5) (subst P4 (sym p4) (subst P3 p3 (subst P2 p2 (subst P1 p1 here))))
        | inr other ↦
            let p4 : slice_index_or (slice_set reads at read) i r ≡ slice_index_or reads i r = get_or-set_other reads at i read r other in
            let p5 : slice_index_or (slice_set writes at write) i w ≡ slice_index_or writes i w = get_or-set_other writes at i write w other in
            let P4 : ReadEnd T → Type 0 = λ x. HaveMet (slice_index_or reads0 i r) (slice_index_or seats0 i j).line (slice_index_or writes0 i w) x (slice_index_or writes i w) in
            let P5 : WriteEnd T → Type 0 = λ x.
            HaveMet (slice_index_or reads0 i r) (slice_index_or seats0 i j).line (slice_index_or writes0 i w) (slice_index_or (slice_set reads at read) i r) x in
            subst P5 (sym p5) (subst P4 (sym p4) (met i r j w (omega (arith, below, other))))
      ]

-- what lies behind is as it was
pub rest_more : {X : Type 0} (xs0 xs : List X) (at : ℕ) (x : X) → ((i : ℕ) (d : X) → at ≤ i → slice_index_or xs i d ≡ slice_index_or xs0 i d) →
    (i : ℕ) (d : X) → at + 1 ≤ i → slice_index_or (slice_set xs at x) i d ≡ slice_index_or xs0 i d
rest_more xs0 xs at x rest i d past = get_or-set_other xs at i x d (λ e. omega (arith, past, e)) ∙ rest i d (omega (arith, past))

-- judges do not change
pub judge_more : {T J : Type 0} (seats0 seats : List (Seat T J)) (at : ℕ) (d : Seat T J) (line : JudgeEnd T) → at < length seats →
    ((i : ℕ) (j : Seat T J) → i < at → (slice_index_or seats i j).judge ≡ (slice_index_or seats0 i j).judge) →
    ((i : ℕ) (j : Seat T J) → at ≤ i → slice_index_or seats i j ≡ slice_index_or seats0 i j) → (i : ℕ) (j : Seat T J) → i < at + 1 →
    (slice_index_or (slice_set seats at (record { judge = (slice_index_or seats at d).judge; line = line })) i j).judge ≡ (slice_index_or seats0 i j).judge
judge_more {T} {J} seats0 seats at d line f were rest i j below =
    let new : Seat T J = record { judge = (slice_index_or seats at d).judge; line = line } in
    elim (cases_eq i at) [
      | inl same ↦
          ap (λ (w : Seat T J). w.judge) (get_or-set_at seats at i new j same f)
          ∙ ap (λ (w : Seat T J). w.judge) (get_or_default seats at d j f ∙ rest at j (omega arith))
          ∙ ap (λ (k : ℕ). (slice_index_or seats0 k j).judge) (sym same)
      | inr other ↦ ap (λ (w : Seat T J). w.judge) (get_or-set_other seats at i new j other) ∙ were i j (omega (arith, below, other))
    ]
