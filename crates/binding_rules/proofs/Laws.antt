-- What follows where no refusal is true, and which place a filter keeps.
use Rattle.std.proofs.Common.{◌≡◌, ℕ, zero, suc, ◌+◌, ◌^◌, ◌<◌, ◌≤◌, ◌⊎◌, inl, inr, Bool, true, false, Some, List, [], ◌∷◌, filter, length, subst, refl, sym, ap, ◌∙◌, arith}
use Rattle.std.specs.Prelude.{slice_get}
use Rattle.std.proofs.lemmas.Bool.{cases_Bool, cases_lt, cases_order, false_from_ne_true, and_parts, eqb-true, ltb-true}
use Rattle.std.proofs.lemmas.Option.{same_Some, none-some}
use Rattle.aftr_base.specs.declared.numbers.V4.{V4}
use Rattle.port_set.specs.Shapes.{IsShape, IsNoShape}
use Rattle.port_set.specs.PortSets.{InSet}
use Rattle.port_set.proofs.Laws.{in_set_from}
use Rattle.binding_rules.specs.declared.binding.Binding.{Binding}
use Rattle.binding_rules.specs.declared.binding.Want.{Want}
use Rattle.binding_rules.specs.declared.binding.Want.TheVariants as want
use Rattle.binding_rules.specs.declared.refused.Refused.TheVariants as refused
use Rattle.binding_rules.specs.declared.settings.Edition.{Edition}
use Rattle.binding_rules.specs.declared.settings.Edition.TheVariants as edition
use Rattle.binding_rules.specs.Bindings.{is_bound, owns, IsPlaceOf}
use Rattle.binding_rules.specs.Conflicts.{Conflict, HaveCommonPort, AreMixed}
use Rattle.binding_rules.specs.Tables.{BindingTable, IsValid, IsLawful, binding_table}
use Rattle.binding_rules.proofs.Keys.{shape_cases}

-- a filter of which no element, exactly that at one place, or at most one passes the test
pub filter_none : {X : Type 0} (f : X → Bool) (xs : List X) → ((n : ℕ) (y : X) → slice_get xs n ≡ Some y → f y ≡ false) → filter f xs ≡ []
filter_none f [] none = refl
filter_none f (x ∷ xs) none =
    let here : f x ≡ false = none 0 x refl in
    rw here (filter_none f xs (λ n y e. none (suc n) y e))

pub filter_one : {X : Type 0} (f : X → Bool) (xs : List X) (at : ℕ) (x : X) → slice_get xs at ≡ Some x → f x ≡ true
    → ((n : ℕ) (y : X) → slice_get xs n ≡ Some y → f y ≡ true → n ≡ at) → filter f xs ≡ x ∷ []
filter_one f [] at x e t alone = absurd (none-some x e)
filter_one f (z ∷ xs) zero x e t alone =
    let same : z ≡ x = same_Some z x e in
    let here : f z ≡ true = ap f same ∙ t in
    let rest : filter f xs ≡ [] = filter_none f xs (λ n y g. false_from_ne_true (f y) (λ p. absurd (omega (arith, alone (suc n) y g p)))) in
    rw here (ap (λ ys. z ∷ ys) rest ∙ ap (λ y. y ∷ []) same)
filter_one f (z ∷ xs) (suc at) x e t alone =
    let here : f z ≡ false = false_from_ne_true (f z) (λ p. absurd (omega (arith, alone 0 z refl p))) in
    rw here (filter_one f xs at x e t (λ n y g p. omega (arith, alone (suc n) y g p)))

pub filter_few : {X : Type 0} (f : X → Bool) (xs : List X)
    → ((m n : ℕ) (x y : X) → m < n → slice_get xs m ≡ Some x → slice_get xs n ≡ Some y → f x ≡ true → f y ≡ true → ⊥)
    → length (filter f xs) ≤ 1
filter_few f [] apart = omega arith
filter_few f (x ∷ xs) apart =
    elim (cases_Bool (f x)) [
      | inl t ↦ (let rest : filter f xs ≡ [] = filter_none f xs (λ n y e. false_from_ne_true (f y) (λ p. apart 0 (suc n) x y (omega arith) refl e t p)) in
          rw (t, rest) (omega arith))
      | inr t ↦ rw t (filter_few f xs (λ m n y z l e g p q. apart (suc m) (suc n) y z (omega arith) e g p q))
    ]

pub shape_not_both : (a k : ℕ) → IsShape a k → IsNoShape a k → ⊥
shape_not_both a k h (inl l) = omega (arith, h.offset_fits)
shape_not_both a k h (inr (inl l)) = omega (arith, h.sum_fits)
shape_not_both a k h (inr (inr l)) = omega (arith, h.sum_fits)

shape_of_not : (a k : ℕ) → (IsNoShape a k → ⊥) → IsShape a k
shape_of_not a k no_shape = record {
  offset_fits = elim (cases_lt 15 a) [ inl l ↦ absurd (no_shape (inl l)) | inr l ↦ l ];
  sum_fits = elim (cases_lt 16 (a + k)) [ inl l ↦ absurd (no_shape (inr (inr l))) | inr l ↦ l ];
}

-- the edition forbids their shapes, or it does not
pub mixed_cases : (e : Edition) (x y : Binding) → AreMixed e x y ⊎ (AreMixed e x y → ⊥)
mixed_cases edition.One x y = elim (shape_cases x y) [ inl same ↦ inr (λ unlike. unlike same) | inr unlike ↦ inl unlike ]
mixed_cases edition.Two x y = inr (λ never. never)

-- a binding of the whole address owns port 0
whole_owns : (x : Binding) → x.offset ≡ 0 → x.length ≡ 0 → x.psid < 2 ^ x.length → InSet x.offset x.length x.psid 0
whole_owns x o l below =
    let small : x.psid < 2 ^ 0 = subst (λ (n : ℕ). x.psid < 2 ^ n) l below in
    let none : x.psid ≡ 0 = omega (arith, small) in
    rw (o, l, none) (record { is_port = omega arith; identifier = refl; not_low = inl refl })

-- what follows for a table of which no refusal is true
module _ (t : BindingTable) (valid : IsValid t) where
  at_least : (x y : ℕ) → (x < y → ⊥) → y ≤ x
  at_least x y h = elim (cases_lt x y) [ inl l ↦ absurd (h l) | inr l ↦ l ]

  apart : (first second : ℕ) (x y : Binding) → first < second → slice_get t.bindings first ≡ Some x → slice_get t.bindings second ≡ Some y
      → Conflict t.edition x y → ⊥
  apart f s x y l e g conflict =
      elim (mixed_cases t.edition x y) [
        | inl mixed ↦ valid (refused.MixedShape f s)
            (record { ordered = l; there = (x, e, (y, g, record { address = conflict.address; mixed = mixed })) })
        | inr allowed ↦ valid (refused.Twice f s) (record {
          ordered = l;
          there = (
            x,
            e,
            (
              y,
              g,
              record {
                address = conflict.address;
                allowed = allowed;
                common = elim conflict.cause [ inl mixed ↦ absurd (allowed mixed) | inr common ↦ common ];
              },
            ),
          );
        })
      ]

  psids : (at : ℕ) (x : Binding) → slice_get t.bindings at ≡ Some x → x.psid < 2 ^ x.length
  psids at x e = elim (cases_lt x.psid (2 ^ x.length)) [ inl l ↦ l | inr l ↦ absurd (valid (refused.Psid at) (x, e, l)) ]

  -- two owners of a port or of the whole address have a port in common
  common_owned : (w : Want) (x y : Binding) → x.psid < 2 ^ x.length → y.psid < 2 ^ y.length → owns w x ≡ true → owns w y ≡ true → HaveCommonPort x y
  common_owned (want.Port p) x y l m h g =
      let u = and_parts _ _ h in
      let v = and_parts _ _ g in
      let port : p < 65536 = ltb-true p 65536 u.0 in
      (p, in_set_from x.offset x.length x.psid p port u.1, in_set_from y.offset y.length y.psid p port v.1)
  common_owned want.Whole x y l m h g =
      let u = and_parts _ _ h in
      let v = and_parts _ _ g in
      (0, whole_owns x (eqb-true _ _ u.0) (eqb-true _ _ u.1) l, whole_owns y (eqb-true _ _ v.0) (eqb-true _ _ v.1) m)

  pub bound_apart : (v4 : V4) (w : Want) (m n : ℕ) (x y : Binding) → m < n → slice_get t.bindings m ≡ Some x → slice_get t.bindings n ≡ Some y
      → is_bound v4 w x ≡ true → is_bound v4 w y ≡ true → ⊥
  bound_apart v4 w m n x y l e g h k =
      let u = and_parts _ _ h in
      let v = and_parts _ _ k in
      apart m n x y l e g (record {
        address = eqb-true _ _ u.0 ∙ sym (eqb-true _ _ v.0);
        cause = inr (common_owned w x y (psids m x e) (psids n y g) u.1 v.1);
      })

  in_two : IsValid (binding_table edition.Two t.softwire t.bindings)
  in_two refused.Mtu h = valid refused.Mtu h
  in_two refused.Hop h = valid refused.Hop h
  in_two (refused.TooMany n) h = valid (refused.TooMany n) h
  in_two (refused.Shape p) h = valid (refused.Shape p) h
  in_two (refused.Psid p) h = valid (refused.Psid p) h
  in_two (refused.OwnAddress p) h = valid (refused.OwnAddress p) h
  in_two (refused.MixedShape f s) h = h.there.2.2.mixed
  in_two (refused.Twice f s) h =
      let y = h.there.2 in
      apart f s h.there.0 y.0 h.ordered h.there.1 y.1 (record { address = y.2.address; cause = inr y.2.common })

  pub lawful : IsLawful t
  lawful = record {
    mtu6 = at_least t.softwire.mtu6 1280 (λ l. valid refused.Mtu (inl l));
    mtu4 = at_least t.softwire.mtu4 576 (λ l. valid refused.Mtu (inr l));
    hop_limit = at_least t.softwire.hop_limit 1 (λ l. valid refused.Hop (omega arith));
    few = at_least 65536 (length t.bindings) (λ l. valid (refused.TooMany (length t.bindings)) (refl, l));
    shapes = λ at x e. shape_of_not x.offset x.length (λ no_shape. valid (refused.Shape at) (x, e, no_shape));
    psids = psids;
    not_own = λ at x e own. valid (refused.OwnAddress at) (x, e, own);
    apart = apart;
    at_most_one = λ v4 w. filter_few (is_bound v4 w) t.bindings (bound_apart v4 w);
    valid_in_two = in_two;
  }

  -- the place of a binding that is bound, where none before it is
  pub place_of : (v4 : V4) (w : Want) (at : ℕ) (x : Binding) → slice_get t.bindings at ≡ Some x → is_bound v4 w x ≡ true
      → IsPlaceOf t.bindings v4 w at
  place_of v4 w at x e h =
      record {
        only = (x, e, filter_one (is_bound v4 w) t.bindings at x e h only_there);
        alone = only_there;
      }
    where
      only_there : (other : ℕ) (y : Binding) → slice_get t.bindings other ≡ Some y → is_bound v4 w y ≡ true → other ≡ at
      only_there other y g k =
          elim (cases_order other at) [
            | inl same ↦ same
            | inr c ↦ elim c [
              | inl less ↦ absurd (bound_apart v4 w other at y x less g e k h)
              | inr more ↦ absurd (bound_apart v4 w at other x y more e g h k)
            ]
          ]

-- one more place whose binding is not bound
pub bound_more : (bs : List Binding) (v4 : V4) (w : Want) (i : ℕ) (x : Binding) → slice_get bs i ≡ Some x → is_bound v4 w x ≡ false
    → ((n : ℕ) (y : Binding) → n < i → slice_get bs n ≡ Some y → is_bound v4 w y ≡ false)
    → (n : ℕ) (y : Binding) → n < i + 1 → slice_get bs n ≡ Some y → is_bound v4 w y ≡ false
bound_more bs v4 w i x e t before n y l g =
    elim (cases_lt n i) [
      | inl less ↦ before n y less g
      | inr more ↦ (let same : n ≡ i = omega arith in
          let x_is : x ≡ y = same_Some x y (sym e ∙ subst (λ (m : ℕ). slice_get bs m ≡ Some y) same g) in
          subst (λ z. is_bound v4 w z ≡ false) x_is t)
    ]
