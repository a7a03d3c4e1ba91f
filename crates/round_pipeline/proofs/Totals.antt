-- Sums over workers.
use Rattle.std.proofs.Common.{Bool, List, arith, ap, cond, false, length, refl, suc, sym, true, zero, ℕ, [], ◌+◌, ◌++◌, ◌<◌, ◌≤◌, ◌∙◌, ◌∷◌, ◌≡◌, ◌≢◌, inl, inr}
use Rattle.std.proofs.lemmas.Bool.{cases_eq}
use Rattle.round_pipeline.specs.declared.rings.Returned.{Returned}
use Rattle.round_pipeline.specs.Lists.{AreBelow, fresh, in_order, put_well, share, total}
use Rattle.round_pipeline.proofs.Shares.{share_here, share_there}

pub total_zero : (n : ℕ) (f : ℕ → ℕ) → ((i : ℕ) → f i ≡ 0) → total f n ≡ 0
total_zero zero f all = refl
total_zero (suc n) f all = omega (arith, total_zero n f all, all n)

pub total_same : (n : ℕ) (f g : ℕ → ℕ) → ((i : ℕ) → i < n → f i ≡ g i) → total f n ≡ total g n
total_same zero f g all = refl
total_same (suc n) f g all = omega (arith, total_same n f g (λ i l. all i (omega (arith, l))), all n (omega arith))

pub total_le : (n : ℕ) (f g h : ℕ → ℕ) → ((i : ℕ) → i < n → f i ≤ g i + h i) → total f n ≤ total g n + total h n
total_le zero f g h all = omega arith
total_le (suc n) f g h all = omega (arith, total_le n f g h (λ i l. all i (omega (arith, l))), all n (omega arith))

-- one summand is larger by k
pub total_more : (n w k : ℕ) (f g : ℕ → ℕ) → w < n → g w ≡ k + f w → ((i : ℕ) → i ≢ w → g i ≡ f i) → total g n ≡ k + total f n
total_more zero w k f g inside here there = absurd (omega (arith, inside))
total_more (suc n) w k f g inside here there =
    elim (cases_eq w n) [
      | inl e ↦
          let at : g n ≡ k + f n = ap (λ (i : ℕ). g i) (sym e) ∙ here ∙ ap (λ (i : ℕ). k + f i) e in
          omega (arith, total_same n g f (λ i l. there i (λ x. omega (arith, l, e, x))), at)
      | inr other ↦
          omega (arith, total_more n w k f g (omega (arith, inside, other)) here there, there n (λ x. other (sym x)))
    ]

-- all workers' rounds are all rounds
pub total_rounds : {T : Type 0} (n : ℕ) (order : List ℕ) (xs : List T) → AreBelow n order → length xs ≡ length order → total (λ i. length (share order i xs)) n ≡ length order
total_rounds n [] xs below many = total_zero n (λ i. length (share [] i xs)) (λ i. refl)
total_rounds n (w ∷ order) [] below many = absurd (omega (arith, many))
total_rounds n (w ∷ order) (x ∷ xs) below many =
    let more = total_more n w 1 (λ i. length (share order i xs)) (λ i. length (share (w ∷ order) i (x ∷ xs))) below.0
    (let e : length (share (w ∷ order) w (x ∷ xs)) ≡ suc (length (share order w xs)) = ap (λ (l : List _). length l) (share_here order w w x xs refl) in omega (arith, e))
    (λ i other. ap (λ (l : List _). length l) (share_there order w i x xs (λ e. other (sym e)))) in
    omega (arith, more, total_rounds n order xs below.1 (omega (arith, many)))

well_more : (over : Bool) (k : ℕ) → cond over k (suc k) ≡ cond over 0 1 + k
well_more true k = omega arith
well_more false k = omega arith

module _ {T : Type 0} where
  pub well_append : (xs ys : List (Returned T)) → put_well (xs ++ ys) ≡ put_well xs + put_well ys
  well_append [] ys = omega arith
  well_append (x ∷ xs) ys =
      omega (arith, well_append xs ys, well_more x.over (put_well (xs ++ ys)), well_more x.over (put_well xs))

  pub well_fresh : (xs : List T) → put_well (fresh xs) ≡ length xs
  well_fresh [] = refl
  well_fresh (x ∷ xs) = omega (arith, well_fresh xs)

  pub well_in_order : (xs : List (Returned T)) → put_well (in_order xs) ≡ put_well xs
  well_in_order [] = refl
  well_in_order (x ∷ xs) =
      omega (arith, well_append (in_order xs) (x ∷ []), well_in_order xs, well_more x.over 0, well_more x.over (put_well xs))

  pub total_well : (n : ℕ) (order : List ℕ) (xs : List (Returned T)) → AreBelow n order → length xs ≡ length order → total (λ i. put_well (share order i xs)) n ≡ put_well xs
  total_well n [] [] below many = total_zero n (λ i. put_well {T = T} (share [] i [])) (λ i. refl)
  total_well n [] (x ∷ xs) below many = absurd (omega (arith, many))
  total_well n (w ∷ order) [] below many = absurd (omega (arith, many))
  total_well n (w ∷ order) (x ∷ xs) below many =
      let more = total_more n w (cond x.over 0 1) (λ i. put_well (share order i xs)) (λ i. put_well (share (w ∷ order) i (x ∷ xs))) below.0
      (ap (λ (l : List (Returned T)). put_well l) (share_here order w w x xs refl) ∙ well_more x.over (put_well (share order w xs)))
      (λ i other. ap (λ (l : List (Returned T)). put_well l) (share_there order w i x xs (λ e. other (sym e)))) in
      more ∙ ap (λ (k : ℕ). cond x.over 0 1 + k) (total_well n order xs below.1 (omega (arith, many))) ∙ sym (well_more x.over (put_well xs))
