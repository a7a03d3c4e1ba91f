-- What each turn keeps holds at the end of a run, as if one thread had done it turn by turn.
use Rattle.std.proofs.Common.{Bool, List, arith, ap, cond, length, refl, subst, sym, true, ℕ, [], ◌∷◌, ◌∙◌, ◌≡◌, ◌≢◌, inl, inr}
use Rattle.std.proofs.lemmas.Bool.{cases_eq}
use Rattle.std.specs.Prelude.{None, Option, ◌==◌}
use Rattle.round_pipeline.specs.declared.rings.Returned.{Returned}
use Rattle.round_pipeline.specs.Lists.{share}
use Rattle.round_pipeline.specs.Rounds.{AreFilled, AreJudged, ArePut, IsPut}
use Rattle.round_pipeline.proofs.Places.{test_other, test_same}
use Rattle.round_pipeline.proofs.Shares.{share_here, share_there}

-- the judges, of which one has changed
abbrev pub with_judge : {J : Type 0} → (ℕ → J) → ℕ → J → ℕ → J
with_judge js at j i = cond (i == at) j (js i)

with_here : {J : Type 0} (js : ℕ → J) (at i : ℕ) (j : J) → i ≡ at → with_judge js at j i ≡ j
with_here js at i j e = rw (test_same i at e) refl

with_there : {J : Type 0} (js : ℕ → J) (at i : ℕ) (j : J) → i ≢ at → with_judge js at j i ≡ js i
with_there js at i j e = rw (test_other i at e) refl

-- a judge that was set back and then set again
with_again : {J : Type 0} (js : ℕ → J) (at : ℕ) (x : J) (i : ℕ) → with_judge (with_judge js at x) at (js at) i ≡ js i
with_again js at x i =
    elim (cases_eq i at) [
      | inl e ↦ with_here (with_judge js at x) at i (js at) e ∙ ap (λ (k : ℕ). js k) (sym e)
      | inr other ↦ with_there (with_judge js at x) at i (js at) other ∙ with_there js at i x other
    ]

-- `P` holds of the source, the judges, the sink and its answer. A turn fills a buffer, has it judged by the judge whose turn it is, and puts it unless the sink has ended.
module _ {S J T W E : Type 0} (fills : S → T → S → T → Bool → Type 0) (judges : J → T → J → T → Type 0) (puts : W → T → W → T → Option E → Type 0)
    (P : S → (ℕ → J) → W → Option E → Type 0)
    (turn : (at : ℕ) (s s' : S) (js : ℕ → J) (j' : J) (w w' : W) (answer answer' : Option E) (room round product back : T) (more : Bool) → P s js w answer →
    fills s room s' round more → judges (js at) round j' product → IsPut puts w answer product w' answer' back →
    P s' (with_judge js at j') w' answer') where
  pub turns_hold : (order : List ℕ) (rooms rounds products : List T) (backs : List (Returned T)) (s0 s : S) (more : Bool) (js0 js : ℕ → J) (w0 w : W) (answer : Option E) →
      length rounds ≡ length order → length products ≡ length order →
      AreFilled fills s0 rooms rounds s more → ((i : ℕ) → AreJudged judges (js0 i) (share order i rounds) (share order i products) (js i)) →
      ArePut puts w0 products backs w answer → P s0 js0 w0 None → P s js w answer
  turns_hold [] [] [] [] [] s0 s more js0 js w0 w answer many fits filled judged put start =
      let same : js0 ≡ js = λ k i. sym (judged i) k in
      let P1 : S → Type 0 = λ x. P x js0 w0 None in
      let P2 : (ℕ → J) → Type 0 = λ x. P s x w0 None in
      let P3 : W → Type 0 = λ x. P s js x None in
      let P4 : Option E → Type 0 = λ x. P s js w x in
      subst P4 (sym put.1) (subst P3 (sym put.0) (subst P2 same (subst P1 (sym filled.0) start)))
  turns_hold (at ∷ order) [] [] [] [] s0 s more js0 js w0 w answer many fits filled judged put start = absurd (omega (arith, many))
  turns_hold order [] [] [] (b ∷ backs) s0 s more js0 js w0 w answer many fits filled judged put start = absurd put
  turns_hold order [] [] (p ∷ products) backs s0 s more js0 js w0 w answer many fits filled judged put start = absurd (omega (arith, many, fits))
  turns_hold order [] (r ∷ rounds) products backs s0 s more js0 js w0 w answer many fits filled judged put start = absurd filled
  turns_hold order (a ∷ rooms) [] products backs s0 s more js0 js w0 w answer many fits filled judged put start = absurd filled
  turns_hold order (a ∷ rooms) (r ∷ rounds) [] backs s0 s more js0 js w0 w answer many fits filled judged put start = absurd (omega (arith, many, fits))
  turns_hold order (a ∷ rooms) (r ∷ rounds) (p ∷ products) [] s0 s more js0 js w0 w answer many fits filled judged put start = absurd put
  turns_hold [] (a ∷ rooms) (r ∷ rounds) (p ∷ products) (b ∷ backs) s0 s more js0 js w0 w answer many fits filled judged put start = absurd (omega (arith, many))
  turns_hold (at ∷ order) (a ∷ rooms) (r ∷ rounds) (p ∷ products) (b ∷ backs) s0 s more js0 js w0 w answer many fits filled judged put start =
      let fewer : length rounds ≡ length order = omega (arith, many) in
      let less : length products ≡ length order = omega (arith, fits) in
      let R1 : List T → Type 0 = λ x. AreJudged judges (js0 at) x (share (at ∷ order) at (p ∷ products)) (js at) in
      let R2 : List T → Type 0 = λ x. AreJudged judges (js0 at) (r ∷ share order at rounds) x (js at) in
      let did : AreJudged judges (js0 at) (r ∷ share order at rounds) (p ∷ share order at products) (js at) =
      subst R2 (share_here order at at p products refl) (subst R1 (share_here order at at r rounds refl) (judged at)) in
      let x = did.0 in
      let before : ℕ → J = with_judge js at x in
      let each = λ (i : ℕ).
      let claim : AreJudged judges (js0 i) (share order i rounds) (share order i products) (before i) =
      elim (cases_eq i at) [
        | inl e ↦
            let Q : J → Type 0 = λ y. AreJudged judges (js0 i) (share order i rounds) (share order i products) y in
            let K : ℕ → Type 0 = λ k. AreJudged judges (js0 k) (share order k rounds) (share order k products) x in
            subst Q (sym (with_here js at i x e)) (subst K (sym e) did.1)
        | inr other ↦
            let Q : J → Type 0 = λ y. AreJudged judges (js0 i) (share order i rounds) (share order i products) y in
            let C1 : List T → Type 0 = λ l. AreJudged judges (js0 i) l (share (at ∷ order) i (p ∷ products)) (js i) in
            let C2 : List T → Type 0 = λ l. AreJudged judges (js0 i) (share order i rounds) l (js i) in
            subst Q (sym (with_there js at i x other))
            (subst C2 (share_there order at i p products (λ e. other (sym e))) (subst C1 (share_there order at i r rounds (λ e. other (sym e))) (judged i)))
      ] in
      claim in
      let earlier = turns_hold order rooms rounds products backs s0 filled.0 true js0 before w0 put.0 put.1 fewer less filled.1 each put.2 start in
      let J1 : J → Type 0 = λ y. judges y r (js at) p in
      let done = turn at filled.0 s before (js at) put.0 w put.1 answer a r p b.buffer more earlier filled.2
      (subst J1 (sym (with_here js at at x refl)) did.2) put.3 in
      let again : with_judge before at (js at) ≡ js = λ k i. with_again js at x i k in
      let P2 : (ℕ → J) → Type 0 = λ y. P s y w answer in
      subst P2 again done
