-- A list of times has one list of marks.
use Rattle.std.proofs.Common.{◌≡◌, ℕ, zero, suc, ◌<◌, ◌≤◌, ◌↔◌, Bool, true, false, List, [], ◌∷◌, ◌++◌, length, take, get_or, refl, sym, ◌∙◌, ap, ap₂, subst, arith}
use Rattle.error_limit.specs.Limits.{MayPass, IsMarked}
use Rattle.error_limit.proofs.Marking.{take_whole}

take_next : (marks : List Bool) (j : ℕ) → j < length marks → take (suc j) marks ≡ take j marks ++ get_or marks j false ∷ []
take_next [] j l = absurd (omega arith)
take_next (m ∷ marks) zero l = refl
take_next (m ∷ marks) (suc j) l = ap (λ (ms : List Bool). m ∷ ms) (take_next marks j (omega arith))

same_mark : (x y : Bool) (P : Type 0) → (x ≡ true) ↔ P → (y ≡ true) ↔ P → x ≡ y
same_mark true true P h k = refl
same_mark false false P h k = refl
same_mark true false P h k = sym (k.1 (h.0 refl))
same_mark false true P h k = h.1 (k.0 refl)

module _ (rate : ℕ) (times : List ℕ) (marks others : List Bool) (h : IsMarked rate times marks) (k : IsMarked rate times others) where
  same_front : (j : ℕ) → j ≤ length times → take j marks ≡ take j others
  same_front zero l = refl
  same_front (suc j) l =
      let before = same_front j (omega arith) in
      let P : List Bool → Type 0 = λ ms. (get_or others j false ≡ true) ↔ MayPass rate (take j times) ms (get_or times j 0) in
      let mark = same_mark (get_or marks j false) (get_or others j false) (MayPass rate (take j times) (take j marks) (get_or times j 0))
      (h.each j (omega arith)) (subst P (sym before) (k.each j (omega arith))) in
      take_next marks j (omega (arith, h.size))
      ∙ ap₂ (λ (ms : List Bool) (m : Bool). ms ++ m ∷ []) before mark
      ∙ sym (take_next others j (omega (arith, k.size)))

  pub same_marks : marks ≡ others
  same_marks =
      sym (take_whole marks (length times) (omega (arith, h.size))) ∙ same_front (length times) (omega arith)
      ∙ take_whole others (length times) (omega (arith, k.size))
