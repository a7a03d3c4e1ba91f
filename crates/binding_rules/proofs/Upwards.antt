-- A step up the places of an address.
use Rattle.std.proofs.Common.{◌≡◌, ℕ, ◌+◌, ◌-◌, ◌<◌, inl, inr, Option, Some, None, List, [], ◌∷◌, ◌++◌, length, length-append, slice_set, subst, refl, sym, ap, ◌∙◌, arith}
use Rattle.std.specs.Prelude.{slice_get}
use Rattle.std.proofs.lemmas.Bool.{cases_order, cases_lt, cases_eq}
use Rattle.std.proofs.lemmas.List.{get_or_append_left, get_or-set_same, get_or-set_other}
use Rattle.std.proofs.Math.Seq.{get_or-append_seam}
use Rattle.binding_rules.specs.declared.binding.Binding.{Binding}
use Rattle.binding_rules.specs.Scans.{IsNearest, IsFollowing, IsAtAddress, IsLinkedUp, slot}
use Rattle.binding_rules.proofs.Links.{IsOf, at_address_of}

-- one more place below the end, where it changes nothing
pub following_kept : (bs : List Binding) (a p i : ℕ) (o : Option ℕ) → IsFollowing bs a p i o → (o ≡ None → IsAtAddress bs a i → ⊥)
    → IsFollowing bs a p (i + 1) o
following_kept bs a p i None follows not_here = λ n l m h. elim (cases_lt n i) [
  | inl less ↦ follows n l less h
  | inr more ↦ (let same : n ≡ i = omega (arith, m, more) in not_here refl (subst (IsAtAddress bs a) same h))
]
following_kept bs a p i (Some q) follows not_here = (follows.0, omega (arith, follows.1), follows.2, follows.3)

-- the place i comes behind those before it, of which each has the nearest later one below i
module _ (bs : List Binding) (i : ℕ) (y : Binding) (next : List (Option ℕ)) (there : slice_get bs i ≡ Some y) (size : length next ≡ i)
    (before : (p : ℕ) (x : Binding) → p < i → slice_get bs p ≡ Some x → IsFollowing bs x.v4.0 p i (slot next p)) where
  abbrev pub longer : List (Option ℕ)
  longer = next ++ None ∷ []

  old_slot : (p : ℕ) → p < i → slot longer p ≡ slot next p
  old_slot p l = get_or_append_left next (None ∷ []) None p (omega (arith, size, l))

  new_slot : (p : ℕ) → p ≡ i → slot longer p ≡ None
  new_slot p same = ap (slot longer) (same ∙ sym size) ∙ get_or-append_seam next None [] None

  none_behind : (a p : ℕ) → p ≡ i → IsFollowing bs a p (i + 1) None
  none_behind a p same = λ n l m h. absurd (omega (arith, same, l, m))

  -- it is the first of its address
  pub linked_first : IsNearest bs y.v4.0 i None
      → (p : ℕ) (x : Binding) → p < i + 1 → slice_get bs p ≡ Some x → IsFollowing bs x.v4.0 p (i + 1) (slot longer p)
  linked_first nearest p x l h = elim (cases_lt p i) [
    | inl less ↦ subst (λ o. IsFollowing bs x.v4.0 p (i + 1) o) (sym (old_slot p less))
        (following_kept bs x.v4.0 p i (slot next p) (before p x less h)
        (λ none here. nearest p less (x, h, sym (at_address_of bs x.v4.0 i y there here))))
    | inr more ↦ (let same : p ≡ i = omega (arith, l, more) in
        subst (λ o. IsFollowing bs x.v4.0 p (i + 1) o) (sym (new_slot p same)) (none_behind x.v4.0 p same))
  ]

  -- the place q is the nearest earlier one of its address
  module _ (q : ℕ) (nearest : IsNearest bs y.v4.0 i (Some q)) where
    abbrev pub linked : List (Option ℕ)
    linked = slice_set longer q (Some i)

    linked_at : (p : ℕ) → p ≡ q → slot linked p ≡ Some i
    linked_at p same =
        let within : q < length longer = omega (arith, length-append next (None ∷ []), size, nearest.0) in
        ap (slot linked) same ∙ get_or-set_same longer q (Some i) None within

    -- a place that has none behind it below i is no other place of the address
    no_other : (p : ℕ) (x : Binding) → p < i → (p ≡ q → ⊥) → slice_get bs p ≡ Some x → slot next p ≡ None → IsAtAddress bs x.v4.0 i → ⊥
    no_other p x less apart h none here =
        let follows = subst (λ o. IsFollowing bs x.v4.0 p i o) none (before p x less h) in
        let address : y.v4.0 ≡ x.v4.0 = at_address_of bs x.v4.0 i y there here in
        elim (cases_order p q) [
          | inl same ↦ apart same
          | inr c ↦ elim c [
            | inl below ↦ follows q below nearest.0 (subst (λ v. IsAtAddress bs v q) address nearest.1.0)
            | inr above ↦ nearest.1.1 p above less (x, h, sym address)
          ]
        ]

    pub linked_behind : (p : ℕ) (x : Binding) → p < i + 1 → slice_get bs p ≡ Some x → IsFollowing bs x.v4.0 p (i + 1) (slot linked p)
    linked_behind p x l h = elim (cases_eq p q) [
      | inl same ↦
          (let address : x.v4.0 ≡ y.v4.0 = at_address_of bs y.v4.0 q x (subst (λ (n : ℕ). slice_get bs n ≡ Some x) same h) nearest.1.0 in
          subst (λ o. IsFollowing bs x.v4.0 p (i + 1) o) (sym (linked_at p same)) (
            omega (arith, same, nearest.0),
            omega arith,
            (y, there, sym address),
            λ n m k g. nearest.1.1 n (omega (arith, same, m)) k (subst (λ v. IsAtAddress bs v n) address g),
          ))
      | inr apart ↦
          (let kept : slot linked p ≡ slot longer p = get_or-set_other longer q p (Some i) None apart in
          elim (cases_lt p i) [
            | inl less ↦ subst (λ o. IsFollowing bs x.v4.0 p (i + 1) o) (sym (kept ∙ old_slot p less))
                (following_kept bs x.v4.0 p i (slot next p) (before p x less h) (no_other p x less apart h))
            | inr more ↦ (let same : p ≡ i = omega (arith, l, more) in
                subst (λ o. IsFollowing bs x.v4.0 p (i + 1) o) (sym (kept ∙ new_slot p same)) (none_behind x.v4.0 p same))
          ])
    ]

pub following_of : (bs : List Binding) (next : List (Option ℕ)) (a p : ℕ) → IsLinkedUp bs next → IsAtAddress bs a p
    → IsFollowing bs a p (length bs) (slot next p)
following_of bs next a p linked h = subst (λ v. IsFollowing bs v p (length bs) (slot next p)) h.2 (linked.following p h.0 h.1)

pub following_is_of : (bs : List Binding) (a p : ℕ) (o : Option ℕ) → IsFollowing bs a p (length bs) o → IsOf bs a o
following_is_of bs a p None follows = tt
following_is_of bs a p (Some q) follows = follows.2

-- how far up the places can still go: the measure of a walk
abbrev pub left_above : List Binding → Option ℕ → ℕ
left_above bs None = 0
left_above bs (Some p) = length bs - p

pub left_less : (bs : List Binding) (a p : ℕ) (at o : Option ℕ) → at ≡ Some p → p < length bs → IsFollowing bs a p (length bs) o
    → left_above bs o < left_above bs at
left_less bs a p at o e l follows = rw e (less o follows)
  where
    less : (q : Option ℕ) → IsFollowing bs a p (length bs) q → left_above bs q < length bs - p
    less None f = omega (arith, l)
    less (Some q) f = omega (arith, f.0, f.1, l)
