-- Sums over the belts of all workers: what went in and what came back.
use Rattle.run_turns.proofs.Words.{◌≡◌, ◌≢◌, ℕ, ◌+◌, ◌<◌, List, [], ◌∷◌, ◌++◌, length, zero, suc, inl, inr, refl, sym, subst, ◌∙◌, ap, arith}
use Rattle.run_turns.proofs.Words.{sum_by, sum_by-append, sum_by-cons}
use Rattle.std.proofs.lemmas.Bool.{cases_eq}
use Rattle.round_pipeline.specs.declared.rings.Returned.{Returned}
use Rattle.round_pipeline.specs.Lists.{AreBelow, buffers, in_order, share, total}
use Rattle.round_pipeline.proofs.Shares.{share_here, share_there}

-- two sums of two
pub total_both : (a b c d : ℕ → ℕ) (n : ℕ) → ((i : ℕ) → i < n → a i + b i ≡ c i + d i) → total a n + total b n ≡ total c n + total d n
total_both a b c d zero same = refl
total_both a b c d (suc n) same =
    omega (arith, total_both a b c d n (λ i inside. same i (omega (arith, inside))), same n (omega arith))

pub total_same : (f g : ℕ → ℕ) (n : ℕ) → ((i : ℕ) → i < n → f i ≡ g i) → total f n ≡ total g n
total_same f g zero same = refl
total_same f g (suc n) same = omega (arith, total_same f g n (λ i inside. same i (omega (arith, inside))), same n (omega arith))

-- a sum of which one part is more
pub total_one : (f g : ℕ → ℕ) (at more n : ℕ) → at < n → f at ≡ g at + more → ((i : ℕ) → i < n → i ≢ at → f i ≡ g i) → total f n ≡ total g n + more
total_one f g at more zero inside here others = absurd (omega (arith, inside))
total_one f g at more (suc n) inside here others = elim (cases_eq n at) [
  | inl e ↦
      let same : total f n ≡ total g n = total_same f g n (λ i less. others i (omega (arith, less)) (λ is. absurd (omega (arith, less, is, e)))) in
      let last : f n ≡ g n + more = subst (λ (k : ℕ). f k ≡ g k + more) (sym e) here in
      omega (arith, same, last)
  | inr other ↦
      let before : total f n ≡ total g n + more =
      total_one f g at more n (omega (arith, inside, other)) here (λ i less. others i (omega (arith, less))) in
      omega (arith, before, others n (omega arith) other)
]

module _ {T : Type 0} (f : T → ℕ) where
  pub sum_in_order : (xs : List T) → sum_by f (in_order xs) ≡ sum_by f xs
  sum_in_order [] = refl
  sum_in_order (x ∷ xs) =
      omega (arith, sum_by-append f (in_order xs) (x ∷ []), sum_by-cons f x [], sum_in_order xs, sum_by-cons f x xs)

  -- the rounds of all workers are all rounds
  pub total_sum : (n : ℕ) (order : List ℕ) (xs : List T) → AreBelow n order → length xs ≡ length order →
      total (λ i. sum_by f (share order i xs)) n ≡ sum_by f xs
  total_sum n [] [] below many = total_none n where
    total_none : (n : ℕ) → total (λ i. sum_by f (share [] i [])) n ≡ 0
    total_none zero = refl
    total_none (suc n) = omega (arith, total_none n)
  total_sum n [] (x ∷ xs) below many = absurd (omega (arith, many))
  total_sum n (w ∷ order) [] below many = absurd (omega (arith, many))
  total_sum n (w ∷ order) (x ∷ xs) below many =
      let here : sum_by f (share (w ∷ order) w (x ∷ xs)) ≡ sum_by f (share order w xs) + f x =
      ap (λ (l : List T). sum_by f l) (share_here order w w x xs refl) ∙ omega (arith, sum_by-cons f x (share order w xs)) in
      let others = λ (i : ℕ) (inside : i < n) (other : i ≢ w).
      ap (λ (l : List T). sum_by f l) (share_there order w i x xs (λ e. other (sym e))) in
      omega (
        arith,
        total_one (λ i. sum_by f (share (w ∷ order) i (x ∷ xs))) (λ i. sum_by f (share order i xs)) w (f x) n below.0 here others,
        total_sum n order xs below.1 (omega (arith, many)),
        sum_by-cons f x xs,
      )

-- what is told of a buffer that came back
abbrev pub of_back : {T : Type 0} → (T → ℕ) → Returned T → ℕ
of_back f b = f b.buffer

sum_buffers : {T : Type 0} (f : T → ℕ) (bs : List (Returned T)) → sum_by f (buffers bs) ≡ sum_by (of_back f) bs
sum_buffers f [] = refl
sum_buffers f (b ∷ bs) = omega (arith, sum_by-cons f b.buffer (buffers bs), sum_by-cons (of_back f) b bs, sum_buffers f bs)

-- What the belts carried at first and what came back is what was filled and what they carry at last.
module _ {T : Type 0} (f : T → ℕ) (n : ℕ) (order : List ℕ) (rooms : List T) (backs : List (Returned T)) (before after : ℕ → List T)
    (below : AreBelow n order) (many_rooms : length rooms ≡ length order) (many_backs : length backs ≡ length order)
    (belt : (i : ℕ) → i < n → in_order (share order i rooms) ++ after i ≡ before i ++ buffers (in_order (share order i backs))) where
  one : (i : ℕ) → i < n → sum_by f (share order i rooms) + sum_by f (after i) ≡ sum_by f (before i) + sum_by (of_back f) (share order i backs)
  one i inside =
      omega (
        arith,
        ap (λ (l : List T). sum_by f l) (belt i inside),
        sum_by-append f (in_order (share order i rooms)) (after i),
        sum_by-append f (before i) (buffers (in_order (share order i backs))),
        sum_in_order f (share order i rooms),
        sum_buffers f (in_order (share order i backs)),
        sum_in_order (of_back f) (share order i backs),
      )

  pub belts_sum : sum_by f rooms + total (λ i. sum_by f (after i)) n ≡ total (λ i. sum_by f (before i)) n + sum_by (of_back f) backs
  belts_sum =
      omega (
        arith,
        total_both (λ i. sum_by f (share order i rooms)) (λ i. sum_by f (after i)) (λ i. sum_by f (before i)) (λ i. sum_by (of_back f) (share order i backs)) n one,
        total_sum f n order rooms below many_rooms,
        total_sum (of_back f) n order backs below many_backs,
      )
