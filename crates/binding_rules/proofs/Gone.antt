-- The addresses that have been gone over: those of which no place comes any more.
use Rattle.std.proofs.Common.{◌≡◌, ℕ, ◌+◌, ◌<◌, ◌≤◌, ◌⊎◌, inl, inr, true, false, eqb, Option, Some, None, List, length, subst, refl, sym, ap, ◌∙◌, arith}
use Rattle.std.specs.Prelude.{slice_get}
use Rattle.std.specs.Option.{option_eq}
use Rattle.std.proofs.lemmas.Bool.{cases_eq, cases_lt, cases_Bool, eqb-true, eqb-false, true≢false}
use Rattle.std.proofs.lemmas.Option.{slice_get_within, same_Some, none-some}
use Rattle.binding_rules.specs.declared.binding.Binding.{Binding}
use Rattle.binding_rules.specs.declared.conflicts.Pair.{Pair}
use Rattle.binding_rules.specs.declared.settings.Edition.{Edition}
use Rattle.binding_rules.specs.Conflicts.{Conflict}
use Rattle.binding_rules.specs.Scans.{IsFirstPair, ArePair, IsNearest, IsLast, IsAtAddress, IsOwnersOf, AreFresh, owner_named, is_at_address, slot, earlier_of}
use Rattle.binding_rules.proofs.Leasts.{pair_iff, pair_or}
use Rattle.binding_rules.proofs.Links.{at_address_of, same_binding}

-- from the place i on no binding has the address of the binding at n
abbrev pub IsGone : List Binding → ℕ → ℕ → Type 0
IsGone bs i n = (x : Binding) → slice_get bs n ≡ Some x → (m : ℕ) → i ≤ m → IsAtAddress bs x.v4.0 m → ⊥

abbrev pub AreGone : List Binding → ℕ → List (Option ℕ) → Type 0
AreGone bs i owners = (key n : ℕ) → key < 65536 → slot owners key ≡ Some n → IsGone bs i n

pub gone_later : (bs : List Binding) (i n : ℕ) → IsGone bs i n → IsGone bs (i + 1) n
gone_later bs i n gone x e m l h = gone x e m (omega arith) h

-- at the last place of an address: after it the address is gone
pub gone_here : (bs : List Binding) (a i n : ℕ) → IsLast bs a i → IsAtAddress bs a n → IsGone bs (i + 1) n
gone_here bs a i n last at_n x e m l h =
    last.none_after m (omega arith) (subst (λ (b : ℕ). IsAtAddress bs b m) (at_address_of bs a n x e at_n) h)

-- what is gone after the place i was gone before it or has its address
pub gone_before : (bs : List Binding) (i f : ℕ) (y x : Binding) → slice_get bs i ≡ Some y → slice_get bs f ≡ Some x
    → IsGone bs (i + 1) f → IsGone bs i f ⊎ IsAtAddress bs y.v4.0 f
gone_before bs i f y x here there gone =
    elim (cases_eq x.v4.0 y.v4.0) [
      | inl same ↦ inr (x, there, same)
      | inr apart ↦ inl (λ z e m l h. elim (cases_lt i m) [
        | inl less ↦ gone z e m (omega arith) h
        | inr more ↦ (let same : m ≡ i = omega arith in
            let z_is : z ≡ x = same_binding bs f z x e there in
            apart (sym (ap (λ (b : Binding). b.v4.0) z_is)
            ∙ sym (at_address_of bs z.v4.0 i y here (subst (IsAtAddress bs z.v4.0) same h))))
      ])
    ]

-- the place i is not the last of its address: nothing more is gone after it
pub gone_same : (bs : List Binding) (i f : ℕ) (y : Binding) (o : Option ℕ) → slice_get bs i ≡ Some y
    → IsNearest bs y.v4.0 (length bs) o → (o ≡ Some i → ⊥) → IsGone bs (i + 1) f → IsGone bs i f
gone_same bs i f y o here nearest not_last gone x e m l h =
    elim (cases_lt i m) [
      | inl less ↦ gone x e m (omega arith) h
      | inr more ↦ (let same : m ≡ i = omega arith in
          let address = at_address_of bs x.v4.0 i y here (subst (IsAtAddress bs x.v4.0) same h) in
          later o refl nearest address)
    ]
  where
    later : (p : Option ℕ) → o ≡ p → IsNearest bs y.v4.0 (length bs) p → y.v4.0 ≡ x.v4.0 → ⊥
    later None e near address = near i (slice_get_within bs i y here) (y, here, refl)
    later (Some p) is near address =
        elim (cases_lt p i) [
          | inl less ↦ near.1.1 i less (slice_get_within bs i y here) (y, here, refl)
          | inr not_less ↦ elim (cases_eq p i) [
            | inl same ↦ not_last (is ∙ ap (λ (n : ℕ). Some n) same)
            | inr apart ↦ gone x e p (omega arith) (subst (λ (b : ℕ). IsAtAddress bs b p) address near.1.0)
          ]
        ]

pub last_of : (bs : List Binding) (a i : ℕ) → IsNearest bs a (length bs) (Some i) → IsLast bs a i
last_of bs a i near = record {
  here = near.1.0;
  none_after = λ n l h. near.1.1 n l (slice_get_within bs n h.0 h.1) h;
}

-- no slot counts for an address that is still to come
pub fresh_for : (bs : List Binding) (i : ℕ) (y : Binding) (owners : List (Option ℕ)) → slice_get bs i ≡ Some y → AreGone bs i owners
    → AreFresh bs y.v4.0 owners
fresh_for bs i y owners here gone key l = by_slot (slot owners key) refl
  where
    by_binding : (n : ℕ) (o : Option Binding) → slice_get bs n ≡ o → slot owners key ≡ Some n → is_at_address y.v4.0 o ≡ false
    by_binding n None e is = refl
    by_binding n (Some x) e is =
        elim (cases_Bool (is_at_address y.v4.0 (Some x))) [
          | inl t ↦ absurd (gone key n l is x e i (omega arith) (y, here, sym (eqb-true x.v4.0 y.v4.0 t)))
          | inr t ↦ t
        ]

    by_slot : (o : Option ℕ) → slot owners key ≡ o → owner_named bs y.v4.0 o ≡ None
    by_slot None e = refl
    by_slot (Some n) e = rw (by_binding n (slice_get bs n) refl e) refl

-- the slots after the places of the last address
pub gone_names : (bs : List Binding) (a i : ℕ) (before now : List (Option ℕ)) → IsLast bs a i → AreGone bs i before
    → IsOwnersOf bs a before now → AreGone bs (i + 1) now
gone_names bs a i before now last gone names key n l e =
    elim (names key n l e) [
      | inl old ↦ gone_later bs i n (gone key n l old)
      | inr h ↦ gone_here bs a i n last h
    ]

pub gone_best : (bs : List Binding) (e : Edition) (i : ℕ) (y : Binding) (best found : Option Pair) → slice_get bs i ≡ Some y → IsLast bs y.v4.0 i
    → IsFirstPair bs (Conflict e) (IsGone bs i) best → IsFirstPair bs (Conflict e) (IsAtAddress bs y.v4.0) found
    → IsFirstPair bs (Conflict e) (IsGone bs (i + 1)) (earlier_of best found)
gone_best bs e i y best found here last old new =
    pair_iff (λ f s. ArePair bs (Conflict e) (IsGone bs i) f s ⊎ ArePair bs (Conflict e) (IsAtAddress bs y.v4.0) f s)
    (ArePair bs (Conflict e) (IsGone bs (i + 1))) (earlier_of best found)
    (λ f s c. elim c [ inl h ↦ (gone_later bs i f h.0, h.1) | inr h ↦ (gone_here bs y.v4.0 i f last h.0, h.1) ])
    (λ f s h. elim (gone_before bs i f y h.1.there.0 here h.1.there.1 h.0) [ inl g ↦ inl (g, h.1) | inr g ↦ inr (g, h.1) ])
    (pair_or (ArePair bs (Conflict e) (IsGone bs i)) (ArePair bs (Conflict e) (IsAtAddress bs y.v4.0)) best found old new)

pub same_best : (bs : List Binding) (e : Edition) (i : ℕ) (y : Binding) (o : Option ℕ) (best : Option Pair) → slice_get bs i ≡ Some y
    → IsNearest bs y.v4.0 (length bs) o → (o ≡ Some i → ⊥)
    → IsFirstPair bs (Conflict e) (IsGone bs i) best → IsFirstPair bs (Conflict e) (IsGone bs (i + 1)) best
same_best bs e i y o best here nearest not_last old =
    pair_iff (ArePair bs (Conflict e) (IsGone bs i)) (ArePair bs (Conflict e) (IsGone bs (i + 1))) best
    (λ f s h. (gone_later bs i f h.0, h.1))
    (λ f s h. (gone_same bs i f y o here nearest not_last h.0, h.1))
    old

pub none_gone : (bs : List Binding) (e : Edition) → IsFirstPair bs (Conflict e) (IsGone bs 0) None
none_gone bs e f s h = h.0 h.1.there.0 h.1.there.1 f (omega arith) (h.1.there.0, h.1.there.1, refl)

pub all_gone : (bs : List Binding) (e : Edition) (i : ℕ) (best : Option Pair) → length bs ≤ i → IsFirstPair bs (Conflict e) (IsGone bs i) best
    → IsFirstPair bs (Conflict e) (λ n. Unit {0}) best
all_gone bs e i best l =
    pair_iff (ArePair bs (Conflict e) (IsGone bs i)) (ArePair bs (Conflict e) (λ n. Unit {0})) best
    (λ f s h. (tt, h.1))
    (λ f s h. (λ x at m m_l g. absurd (omega (arith, slice_get_within bs m g.0 g.1)), h.1))

-- the test of an optional place
pub option_is : (o : Option ℕ) (i : ℕ) → option_eq eqb o (Some i) ≡ true → o ≡ Some i
option_is None i e = absurd (true≢false (sym e))
option_is (Some x) i e = ap (λ (n : ℕ). Some n) (eqb-true x i e)

pub option_is_not : (o : Option ℕ) (i : ℕ) → option_eq eqb o (Some i) ≡ false → o ≡ Some i → ⊥
option_is_not None i e h = none-some i h
option_is_not (Some x) i e h = eqb-false x i e (same_Some x i h)
