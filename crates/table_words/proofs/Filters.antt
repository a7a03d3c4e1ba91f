-- Filters and tests of a list, by its members.
use Rattle.std.proofs.Common.{◌≡◌, zero, suc, ◌≤◌, Bool, true, false, List, [], ◌∷◌, length, filter, Contains, refl, ap, ◌∙◌, inl, inr, arith}
use Rattle.std.specs.List.{list_any}
use Rattle.std.proofs.lemmas.Bool.{cases_Bool, or_left, or_right, or_from}
use Rattle.aftr_base.proofs.MemberLemmas.{contains_after, contains_front}

module _ {X : Type 0} (test : X → Bool) where
  pub any_passes : (xs : List X) (x : X) → Contains xs x → test x ≡ true → list_any test xs ≡ true
  any_passes [] x m h = absurd (omega (arith, m.1))
  any_passes (y ∷ xs) x (zero, l, e) h = or_left (test y) (list_any test xs) (ap test e ∙ h)
  any_passes (y ∷ xs) x (suc k, l, e) h = or_right (test y) (list_any test xs) (any_passes xs x (k, omega arith, e) h)

  pub any_fails : (xs : List X) → ((x : X) → Contains xs x → test x ≡ false) → list_any test xs ≡ false
  any_fails [] h = refl
  any_fails (x ∷ xs) h = or_from (test x) (list_any test xs) (h x (contains_front x xs))
      (any_fails xs (λ y m. h y (contains_after x xs y m)))

  pub filter_fails : (xs : List X) → ((x : X) → Contains xs x → test x ≡ false) → filter test xs ≡ []
  filter_fails [] h = refl
  filter_fails (x ∷ xs) h = rw (h x (contains_front x xs)) (filter_fails xs (λ y m. h y (contains_after x xs y m)))

  pub filter_contains : (xs : List X) (x : X) → Contains xs x → test x ≡ true → Contains (filter test xs) x
  filter_contains [] x m h = absurd (omega (arith, m.1))
  filter_contains (y ∷ xs) x (zero, l, e) h =
      let here : test y ≡ true = ap test e ∙ h in
      rw here (0, omega arith, e)
  filter_contains (y ∷ xs) x (suc k, l, e) h =
      let rest : Contains (filter test xs) x = filter_contains xs x (k, omega arith, e) h in
      elim (cases_Bool (test y)) [ inl passes ↦ rw passes (contains_after y (filter test xs) x rest) | inr fails ↦ rw fails rest ]

-- a list of at most one that has a member
pub only_one : {X : Type 0} (xs : List X) (x : X) → Contains xs x → length xs ≤ 1 → xs ≡ x ∷ []
only_one [] x m l = absurd (omega (arith, m.1))
only_one (y ∷ []) x (zero, k, e) l = ap (λ z. z ∷ []) e
only_one (y ∷ []) x (suc j, k, e) l = absurd (omega arith)
only_one (y ∷ z ∷ xs) x m l = absurd (omega arith)
