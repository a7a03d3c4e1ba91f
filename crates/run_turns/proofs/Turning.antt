-- A run as one turn after another: the source fills a buffer, some judge judges it, and the sink puts it unless it has ended.
use Rattle.std.proofs.Common.{Bool, List, arith, length, refl, subst, sym, true, ℕ, [], ◌<◌, ◌∷◌, ◌≡◌, inl, inr}
use Rattle.std.proofs.lemmas.Bool.{cases_eq}
use Rattle.std.specs.Prelude.{None, Option}
use Rattle.round_pipeline.specs.declared.rings.Returned.{Returned}
use Rattle.round_pipeline.specs.Lists.{AreBelow, share}
use Rattle.round_pipeline.specs.Rounds.{AreFilled, AreJudged, ArePut, IsPut}
use Rattle.round_pipeline.proofs.Shares.{share_here, share_there}

-- each round was judged by a judge of which this holds
module _ {J T : Type 0} (judges : J → T → J → T → Type 0) (IsJudge : J → Type 0)
    (stays : (j k : J) (r p : T) → IsJudge j → judges j r k p → IsJudge k) where
  pub record IsJudgedBy (r p : T) : Type 0 where
    pub before : J
    pub now : J
    pub is_judge : IsJudge before
    pub did : judges before r now p

  abbrev pub EachJudged : List T → List T → Type 0
  EachJudged [] [] = Unit {0}
  EachJudged (r ∷ rounds) (p ∷ products) = EachJudged rounds products × IsJudgedBy r p
  EachJudged _ _ = ⊥

  still_judge : (start now : J) (rounds products : List T) → AreJudged judges start rounds products now → IsJudge start → IsJudge now
  still_judge start now [] [] judged is = subst IsJudge (sym judged) is
  still_judge start now [] (p ∷ products) judged is = absurd judged
  still_judge start now (r ∷ rounds) [] judged is = absurd judged
  still_judge start now (r ∷ rounds) (p ∷ products) judged is =
      stays judged.0 now r p (still_judge start judged.0 rounds products judged.1 is) judged.2

  -- what the judge of a line made
  abbrev pub IsLine : List T → List T → Type 0
  IsLine rounds products = (start : J) × (now : J) × IsJudge start × AreJudged judges start rounds products now

  shorter : (r p : T) (rounds products : List T) → IsLine (r ∷ rounds) (p ∷ products) → IsLine rounds products
  shorter r p rounds products line = (line.0, line.3.0, line.2, line.3.1)

  pub each_judged : (n : ℕ) (order : List ℕ) (rounds products : List T) → AreBelow n order → length rounds ≡ length order → length products ≡ length order →
      ((i : ℕ) → i < n → IsLine (share order i rounds) (share order i products)) → EachJudged rounds products
  each_judged n [] [] [] below many fits lines = tt
  each_judged n [] (r ∷ rounds) products below many fits lines = absurd (omega (arith, many))
  each_judged n [] [] (p ∷ products) below many fits lines = absurd (omega (arith, fits))
  each_judged n (w ∷ order) [] products below many fits lines = absurd (omega (arith, many))
  each_judged n (w ∷ order) (r ∷ rounds) [] below many fits lines = absurd (omega (arith, fits))
  each_judged n (w ∷ order) (r ∷ rounds) (p ∷ products) below many fits lines =
      let here : IsLine (r ∷ share order w rounds) (p ∷ share order w products) =
      subst (λ (l : List T). IsLine l (p ∷ share order w products)) (share_here order w w r rounds refl)
      (subst (λ (l : List T). IsLine (share (w ∷ order) w (r ∷ rounds)) l) (share_here order w w p products refl) (lines w below.0)) in
      let before = shorter r p (share order w rounds) (share order w products) here in
      let each = λ (i : ℕ) (inside : i < n).
      let claim : IsLine (share order i rounds) (share order i products) =
      elim (cases_eq i w) [
        | inl e ↦ subst (λ (k : ℕ). IsLine (share order k rounds) (share order k products)) (sym e) before
        | inr other ↦
            subst (λ (l : List T). IsLine l (share order i products)) (share_there order w i r rounds (λ e. other (sym e)))
            (subst (λ (l : List T). IsLine (share (w ∷ order) i (r ∷ rounds)) l) (share_there order w i p products (λ e. other (sym e))) (lines i inside))
      ] in
      claim in (
        each_judged n order rounds products below.1 (omega (arith, many)) (omega (arith, fits)) each,
        record {
          before = here.3.0;
          now = here.1;
          is_judge = still_judge here.0 here.3.0 (share order w rounds) (share order w products) here.3.1 here.2;
          did = here.3.2;
        },
      )

-- `P` holds of the buffers that were filled and came back, of the source and whether more may come, of the sink and its answer
module _ {S J T W E : Type 0} (fills : S → T → S → T → Bool → Type 0) (judges : J → T → J → T → Type 0) (puts : W → T → W → T → Option E → Type 0)
    (IsJudge : J → Type 0) (stays : (j k : J) (r p : T) → IsJudge j → judges j r k p → IsJudge k)
    (P : List T → List (Returned T) → S → Bool → W → Option E → Type 0)
    (turn : (rooms : List T) (backs : List (Returned T)) (s s' : S) (w w' : W) (answer answer' : Option E) (room round product : T) (back : Returned T) (more : Bool) →
    P rooms backs s true w answer → fills s room s' round more → IsJudgedBy judges IsJudge stays round product → IsPut puts w answer product w' answer' back.buffer →
    P (room ∷ rooms) (back ∷ backs) s' more w' answer') where
  pub turns_keep : (rooms rounds products : List T) (backs : List (Returned T)) (s0 s : S) (more : Bool) (w0 w : W) (answer : Option E) →
      AreFilled fills s0 rooms rounds s more → EachJudged judges IsJudge stays rounds products → ArePut puts w0 products backs w answer → P [] [] s0 true w0 None →
      P rooms backs s more w answer
  turns_keep [] [] [] [] s0 s more w0 w answer filled judged put start =
      subst (λ (m : Bool). P [] [] s m w answer) (sym filled.1)
      (subst (λ (a : Option E). P [] [] s true w a) (sym put.1)
      (subst (λ (x : W). P [] [] s true x None) (sym put.0) (subst (λ (x : S). P [] [] x true w0 None) (sym filled.0) start)))
  turns_keep rooms rounds [] (b ∷ backs) s0 s more w0 w answer filled judged put start = absurd put
  turns_keep rooms rounds (p ∷ products) [] s0 s more w0 w answer filled judged put start = absurd put
  turns_keep rooms [] (p ∷ products) backs s0 s more w0 w answer filled judged put start = absurd judged
  turns_keep rooms (r ∷ rounds) [] backs s0 s more w0 w answer filled judged put start = absurd judged
  turns_keep [] (r ∷ rounds) products backs s0 s more w0 w answer filled judged put start = absurd filled
  turns_keep (a ∷ rooms) [] products backs s0 s more w0 w answer filled judged put start = absurd filled
  turns_keep (a ∷ rooms) (r ∷ rounds) (p ∷ products) (b ∷ backs) s0 s more w0 w answer filled judged put start =
      turn rooms backs filled.0 s put.0 w put.1 answer a r p b more
      (turns_keep rooms rounds products backs s0 filled.0 true w0 put.0 put.1 filled.1 judged.0 put.2 start) filled.2 judged.1 put.3
