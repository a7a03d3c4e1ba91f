-- Lemmas on the first true one of a list of conditions.
use Rattle.std.proofs.Common.{◌≡◌, Bool, not, true, false, List, [], ◌∷◌, ◌++◌, Ok, Some, refl, ap, ◌⊎◌, inl, inr}
use Rattle.std.specs.List.{All}
use Rattle.std.proofs.lemmas.List.Elements.{All-nil, All-cons, All-head, All-tail}
use Rattle.aftr_base.specs.First.{first_true, refused_or}

abbrev pub AllFalse : {A : Type 0} → List (Bool × A) → Type 0
AllFalse [] = Unit {0}
AllFalse (r ∷ rs) = (r.0 ≡ false) × AllFalse rs

-- where nothing is refused, every condition is false
pub first_true-Ok : {A B : Type 0} (rs : List (Bool × A)) (good value : B) → refused_or (first_true rs) good ≡ Ok value →
    AllFalse rs × (good ≡ value)
first_true-Ok [] good value is = (tt, cc)
first_true-Ok ((true, bad) ∷ rs) good value is = absurd cc
first_true-Ok ((false, bad) ∷ rs) good value is =
    let others = first_true-Ok rs good value is in
    ((refl, others.0), others.1)

pub not-false : (test : Bool) → not test ≡ false → test ≡ true
not-false true is = refl
not-false false is = absurd cc

module _ {A : Type 0} where
  abbrev pub IsFalse : Bool × A → Type 0
  IsFalse line = line.0 ≡ false

  -- a list of conditions, taken apart at the first that is true
  pub record IsSplit (ls : List (Bool × A)) (v : A) : Type 0 where
    pub earlier : List (Bool × A)
    pub later : List (Bool × A)
    pub whole : ls ≡ earlier ++ (true, v) ∷ later
    pub all_false : All IsFalse earlier

  pub split_at_first : (ls : List (Bool × A)) (v : A) → first_true ls ≡ Some v → IsSplit ls v
  split_at_first [] v is = absurd cc
  split_at_first ((true, w) ∷ ls) v is =
      let same : w ≡ v = cc in
      record { earlier = []; later = ls; whole = ap (λ (x : A). (true, x) ∷ ls) same; all_false = All-nil IsFalse }
  split_at_first ((false, w) ∷ ls) v is =
      let rest = split_at_first ls v is in
      record {
        earlier = (false, w) ∷ rest.earlier;
        later = rest.later;
        whole = ap (λ (xs : List (Bool × A)). (false, w) ∷ xs) rest.whole;
        all_false = All-cons IsFalse (false, w) rest.earlier refl rest.all_false;
      }

  pub first_of_joined : (earlier later : List (Bool × A)) (v : A) → All IsFalse earlier
      → first_true (earlier ++ (true, v) ∷ later) ≡ Some v
  first_of_joined [] later v all_false = refl
  first_of_joined ((true, w) ∷ earlier) later v all_false =
      let no : true ≡ false = All-head IsFalse (true, w) earlier all_false in absurd cc
  first_of_joined ((false, w) ∷ earlier) later v all_false =
      first_of_joined earlier later v (All-tail IsFalse (false, w) earlier all_false)

  -- the first condition is true and gives the answer, or it is false and those behind it give it
  abbrev pub Choice : Bool → A → List (Bool × A) → A → Type 0
  Choice test w ls v = ((test ≡ true) × (v ≡ w)) ⊎ ((test ≡ false) × (first_true ls ≡ Some v))

  pub first_or_later : (test : Bool) (w : A) (ls : List (Bool × A)) (v : A) → first_true ((test, w) ∷ ls) ≡ Some v
      → Choice test w ls v
  first_or_later true w ls v is = let same : v ≡ w = cc in inl (refl, same)
  first_or_later false w ls v is = inr (refl, is)
