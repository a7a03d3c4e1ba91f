-- A step down the places of an address.
use Rattle.std.proofs.Common.{◌≡◌, ℕ, zero, suc, ◌+◌, ◌-◌, ◌<◌, ◌≤◌, ◌⊎◌, inl, inr, Option, Some, None, false, List, [], ◌∷◌, ◌++◌, length, subst, refl, sym, ap, ap₂, ◌∙◌, arith}
use Rattle.std.proofs.lemmas.Bool.{cases_order, cases_lt, cases_eq}
use Rattle.std.specs.Prelude.{slice_get, slice_index_or}
use Rattle.std.proofs.lemmas.Option.{slice_get_within, slice_get_cases, slice_get-get_or, same_Some}
use Rattle.std.proofs.lemmas.List.{get_or_append_left}
use Rattle.std.proofs.Math.Seq.{get_or-append_seam}
use Rattle.std.specs.Ordering.{nat_cmp, is_eq}
use Rattle.std.specs.declared.cmp.Ordering.TheVariants.{Less, Greater}
use Rattle.std.specs.Cmp.{nat_cmp_is}
use Rattle.std.specs.BTreeMap.{BTreeMap, get, is_at}
use Rattle.binding_rules.specs.Conflicts.{HaveOneShape}
use Rattle.binding_rules.specs.declared.binding.Binding.{Binding}
use Rattle.binding_rules.specs.Refusals.{At}
use Rattle.binding_rules.specs.Scans.{IsNearest, IsAbove, IsLater, IsAtAddress, IsLeast, IsLast, IsLinked, ends_within, slot}
use Rattle.binding_rules.proofs.Leasts.{least_iff}

-- what a place has, without the property
pub address_of : (bs : List Binding) (a n : ℕ) (P : Binding → Type 0) → At bs n (λ x. (x.v4.0 ≡ a) × P x) → IsAtAddress bs a n
address_of bs a n P h = (h.0, h.1, h.2.0)

-- behind the nearest earlier place are those behind the place, and the place itself
pub later_split : (bs : List Binding) (a p : ℕ) (o : Option ℕ) (P : Binding → Type 0) (n : ℕ) → IsNearest bs a p o
    → IsLater bs a o P n → IsLater bs a (Some p) P n ⊎ ((n ≡ p) × At bs p (λ x. (x.v4.0 ≡ a) × P x))
later_split bs a p o P n nearest h =
    elim (cases_order n p) [
      | inl e ↦ inr (e, (rw e at h.there))
      | inr c ↦ elim c [
        | inl below ↦ absurd (none_between o nearest h.above below)
        | inr more ↦ inl (record { above = more; there = h.there })
      ]
    ]
  where
    none_between : (q : Option ℕ) → IsNearest bs a p q → IsAbove q n → n < p → ⊥
    none_between None near up below = near n below (address_of bs a n P h.there)
    none_between (Some q) near up below = near.1.1 n up below (address_of bs a n P h.there)

pub later_behind : (bs : List Binding) (a p : ℕ) (o : Option ℕ) (P : Binding → Type 0) (n : ℕ) → IsNearest bs a p o
    → IsLater bs a (Some p) P n → IsLater bs a o P n
later_behind bs a p None P n nearest h = record { above = tt; there = h.there }
later_behind bs a p (Some q) P n nearest h =
    let up : q < n = omega (arith, nearest.0, h.above) in
    record { above = up; there = h.there }

pub later_here : (bs : List Binding) (a p : ℕ) (o : Option ℕ) (P : Binding → Type 0) → IsNearest bs a p o
    → At bs p (λ x. (x.v4.0 ≡ a) × P x) → IsLater bs a o P p
later_here bs a p None P nearest h = record { above = tt; there = h }
later_here bs a p (Some q) P nearest h = record { above = nearest.0; there = h }

pub least_here : (bs : List Binding) (a p : ℕ) (o : Option ℕ) (P : Binding → Type 0) → IsNearest bs a p o
    → At bs p (λ x. (x.v4.0 ≡ a) × P x) → IsLeast (IsLater bs a o P) (Some p)
least_here bs a p o P nearest h = (
  later_here bs a p o P nearest h,
  λ n l. elim (later_split bs a p o P n nearest l) [
    | inl behind ↦ omega (arith, behind.above)
    | inr same ↦ omega (arith, same.0)
  ],
)

pub least_kept : (bs : List Binding) (a p : ℕ) (o : Option ℕ) (P : Binding → Type 0) (found : Option ℕ) → IsNearest bs a p o
    → (At bs p (λ x. (x.v4.0 ≡ a) × P x) → ⊥) → IsLeast (IsLater bs a (Some p) P) found → IsLeast (IsLater bs a o P) found
least_kept bs a p o P found nearest not_here least =
    least_iff (IsLater bs a (Some p) P) (IsLater bs a o P) found
    (λ n h. later_behind bs a p o P n nearest h)
    (λ n h. elim (later_split bs a p o P n nearest h) [ inl behind ↦ behind | inr same ↦ absurd (not_here same.1) ])
    least

pub none_later : (bs : List Binding) (a last : ℕ) (P : Binding → Type 0) → IsLast bs a last → IsLeast (IsLater bs a (Some last) P) None
none_later bs a last P h = λ n l. h.none_after n l.above (address_of bs a n P l.there)

-- the place, where there is one, is of the address
abbrev pub IsOf : List Binding → ℕ → Option ℕ → Type 0
IsOf bs a None = Unit {0}
IsOf bs a (Some p) = IsAtAddress bs a p

pub near_of : (bs : List Binding) (previous : List (Option ℕ)) (a p : ℕ) → IsLinked bs previous → IsAtAddress bs a p
    → IsNearest bs a p (slot previous p)
near_of bs previous a p linked h = subst (λ v. IsNearest bs v p (slot previous p)) h.2 (linked.nearest p h.0 h.1)

pub nearest_is_of : (bs : List Binding) (a p : ℕ) (o : Option ℕ) → IsNearest bs a p o → IsOf bs a o
nearest_is_of bs a p None nearest = tt
nearest_is_of bs a p (Some q) nearest = nearest.1.0

pub nearest_below : (bs : List Binding) (a p q : ℕ) (o : Option ℕ) → IsNearest bs a p o → o ≡ Some q → (q < p) × IsAtAddress bs a q
nearest_below bs a p q o nearest e = let h = subst (λ v. IsNearest bs a p v) e nearest in (h.0, h.1.0)

pub head_is : (bs : List Binding) (previous : List (Option ℕ)) (a p : ℕ) → IsLinked bs previous → slot previous p ≡ None
    → IsAtAddress bs a p → IsLeast (IsAtAddress bs a) (Some p)
head_is bs previous a p linked e h =
    let none = subst (λ v. IsNearest bs a p v) e (near_of bs previous a p linked h) in
    (h, λ n g. elim (cases_lt n p) [ inl l ↦ absurd (none n l g) | inr m ↦ m ])

-- how many places can still come: the measure of a walk
abbrev pub reach : Option ℕ → ℕ
reach None = 0
reach (Some p) = p + 1

pub of_within : (bs : List Binding) (a p : ℕ) → IsAtAddress bs a p → p < length bs
of_within bs a p h = slice_get_within bs p h.0 h.1

pub there_is : (bs : List Binding) (p : ℕ) → p < length bs → (x : Binding) × (slice_get bs p ≡ Some x)
there_is bs p l = elim (slice_get_cases bs p).1 [ inl h ↦ (h.0, h.2) | inr h ↦ absurd (omega (arith, h.0)) ]

-- the place, where there is one, is one of the list
abbrev pub IsWithin : List Binding → Option ℕ → Type 0
IsWithin bs None = Unit {0}
IsWithin bs (Some p) = p < length bs

pub within_next : (bs : List Binding) (previous : List (Option ℕ)) (p : ℕ) → IsLinked bs previous → p < length bs
    → IsWithin bs (slot previous p)
within_next bs previous p linked l =
    let x = there_is bs p l in
    below (slot previous p) (linked.nearest p x.0 x.1)
  where
    below : (o : Option ℕ) → IsNearest bs (there_is bs p l).0.v4.0 p o → IsWithin bs o
    below None near = tt
    below (Some q) near = omega (arith, near.0)

-- a place is still to come on the way down
abbrev pub IsToCome : ℕ → Option ℕ → Type 0
IsToCome place None = ⊥
IsToCome place (Some at) = place ≤ at

pub last_to_come : (bs : List Binding) (a last place : ℕ) → IsLast bs a last → IsAtAddress bs a place → place ≤ last
last_to_come bs a last place h at_place = elim (cases_lt last place) [ inl less ↦ absurd (h.none_after place less at_place) | inr m ↦ m ]

pub still_to_come : (bs : List Binding) (a p place : ℕ) (o : Option ℕ) → IsNearest bs a p o → IsAtAddress bs a place → place ≤ p
    → (p ≡ place → ⊥) → IsToCome place o
still_to_come bs a p place None near h l apart = near place (omega arith) h
still_to_come bs a p place (Some q) near h l apart =
    elim (cases_lt q place) [ inl less ↦ absurd (near.1.1 place less (omega arith) h) | inr m ↦ m ]

-- a count of the places on the way down
pub ends_now : (previous : List (Option ℕ)) (o : Option ℕ) (p left : ℕ) → o ≡ Some p → left ≡ 0 → false ≡ ends_within previous o left
ends_now previous o p left e z = sym (ap₂ (ends_within previous) e z)

pub ends_next : (previous : List (Option ℕ)) (o : Option ℕ) (p left : ℕ) → o ≡ Some p → (left ≡ 0 → ⊥)
    → ends_within previous o left ≡ ends_within previous (slot previous p) (left - 1)
ends_next previous o p zero e some = absurd (some refl)
ends_next previous o p (suc left) e some =
    let less : left ≡ suc left - 1 = omega arith in
    ap (λ q. ends_within previous q (suc left)) e ∙ ap (ends_within previous (slot previous p)) less

pub reach_less : (bs : List Binding) (previous : List (Option ℕ)) (o : Option ℕ) (p : ℕ) → IsLinked bs previous → p < length bs → o ≡ Some p
    → reach (slot previous p) < reach o
reach_less bs previous o p linked l e =
    let x = there_is bs p l in
    rw e (below (slot previous p) (linked.nearest p x.0 x.1))
  where
    below : (q : Option ℕ) → IsNearest bs (there_is bs p l).0.v4.0 p q → reach q < p + 1
    below None near = omega arith
    below (Some q) near = omega (arith, near.0)

pub head_down : (bs : List Binding) (previous : List (Option ℕ)) (p q : ℕ) → IsLinked bs previous → p < length bs
    → slot previous p ≡ Some q → (q < p) × ((a : ℕ) → IsAtAddress bs a p → IsAtAddress bs a q)
head_down bs previous p q linked l e =
    let x = there_is bs p l in (
      (nearest_below bs x.0.v4.0 p q _ (linked.nearest p x.0 x.1) e).0,
      λ a h. (nearest_below bs a p q _ (near_of bs previous a p linked h) e).1,
    )

pub same_binding : (bs : List Binding) (p : ℕ) (x y : Binding) → slice_get bs p ≡ Some x → slice_get bs p ≡ Some y → x ≡ y
same_binding bs p x y e f = same_Some x y (sym e ∙ f)

-- the binding at a place of the address has the address
pub at_address_of : (bs : List Binding) (a p : ℕ) (y : Binding) → slice_get bs p ≡ Some y → IsAtAddress bs a p → y.v4.0 ≡ a
at_address_of bs a p y e h = subst (λ (z : Binding). z.v4.0 ≡ a) (same_binding bs p h.0 y h.1 e) h.2

-- a step of the search for an unlike shape, where the place has one and where it has not
pub unlike_found : (bs : List Binding) (like y : Binding) (p : ℕ) (o : Option ℕ) → IsNearest bs like.v4.0 p o
    → slice_get bs p ≡ Some y → IsAtAddress bs like.v4.0 p → (HaveOneShape like y → ⊥)
    → IsLeast (IsLater bs like.v4.0 o (λ x. HaveOneShape like x → ⊥)) (Some p)
unlike_found bs like y p o nearest e h unlike =
    least_here bs like.v4.0 p o (λ x. HaveOneShape like x → ⊥) nearest (y, e, (at_address_of bs like.v4.0 p y e h, unlike))

pub unlike_kept : (bs : List Binding) (like y : Binding) (p : ℕ) (o found : Option ℕ) → IsNearest bs like.v4.0 p o
    → slice_get bs p ≡ Some y → HaveOneShape like y
    → IsLeast (IsLater bs like.v4.0 (Some p) (λ x. HaveOneShape like x → ⊥)) found
    → IsLeast (IsLater bs like.v4.0 o (λ x. HaveOneShape like x → ⊥)) found
unlike_kept bs like y p o found nearest e alike least =
    least_kept bs like.v4.0 p o (λ x. HaveOneShape like x → ⊥) found nearest
    (λ h. h.2.1 (subst (λ (z : Binding). HaveOneShape like z) (same_binding bs p y h.0 e h.1) alike)) least

-- the map's test of a key
not_at : (k q : ℕ) → (k ≡ q → ⊥) → is_at (nat_cmp k) q ≡ false
not_at k q n =
    elim (cases_order k q) [
      | inl e ↦ absurd (n e)
      | inr c ↦ elim c [
        | inl l ↦ sym (ap is_eq (nat_cmp_is k q Less l))
        | inr l ↦ sym (ap is_eq (nat_cmp_is k q Greater l))
      ]
    ]

-- the nearest places below the next place, after the place i has been taken for its address
pub nearest_next : (bs : List Binding) (i a : ℕ) (y : Binding) (old new : BTreeMap ℕ ℕ) → slice_get bs i ≡ Some y
    → get nat_cmp new y.v4.0 ≡ Some i
    → ((q : ℕ) → is_at (nat_cmp y.v4.0) q ≡ false → get nat_cmp new q ≡ get nat_cmp old q)
    → IsNearest bs a i (get nat_cmp old a) → IsNearest bs a (i + 1) (get nat_cmp new a)
nearest_next bs i a y old new e here others before =
    elim (cases_eq y.v4.0 a) [
      | inl same ↦ subst (λ o. IsNearest bs a (i + 1) o) (sym here ∙ ap (get nat_cmp new) same)
          (omega arith, ((y, e, same), λ n l m h. absurd (omega arith)))
      | inr apart ↦ subst (λ o. IsNearest bs a (i + 1) o) (sym (others a (not_at y.v4.0 a apart)))
          (kept (get nat_cmp old a) before (λ h. apart (at_address_of bs a i y e h)))
    ]
  where
    kept : (o : Option ℕ) → IsNearest bs a i o → (IsAtAddress bs a i → ⊥) → IsNearest bs a (i + 1) o
    kept None near not_here = λ n l h. elim (cases_lt n i) [
      | inl less ↦ near n less h
      | inr more ↦ (let same : n ≡ i = omega arith in not_here (subst (IsAtAddress bs a) same h))
    ]
    kept (Some q) near not_here = (
      omega (arith, near.0),
      (
        near.1.0,
        λ n l m h. elim (cases_lt n i) [
          | inl less ↦ near.1.1 n l less h
          | inr more ↦ (let same : n ≡ i = omega arith in not_here (subst (IsAtAddress bs a) same h))
        ],
      ),
    )

-- the earlier places of the next place are put behind those of the places before it
pub linked_next : (bs : List Binding) (i : ℕ) (y : Binding) (previous : List (Option ℕ)) (o : Option ℕ) → length previous ≡ i
    → slice_get bs i ≡ Some y → IsNearest bs y.v4.0 i o
    → ((p : ℕ) (x : Binding) → p < i → slice_get bs p ≡ Some x → IsNearest bs x.v4.0 p (slot previous p))
    → (p : ℕ) (x : Binding) → p < i + 1 → slice_get bs p ≡ Some x → IsNearest bs x.v4.0 p (slot (previous ++ o ∷ []) p)
linked_next bs i y previous o size e nearest before p x l h =
    elim (cases_lt p i) [
      | inl less ↦ subst (λ v. IsNearest bs x.v4.0 p v) (sym (get_or_append_left previous (o ∷ []) None p (omega (arith, size))))
          (before p x less h)
      | inr more ↦ (let same : p ≡ i = omega arith in
          let h_i = subst (λ (n : ℕ). slice_get bs n ≡ Some x) same h in
          let at_i = subst (λ (z : Binding). IsNearest bs z.v4.0 i o) (same_binding bs i y x e h_i) nearest in
          let put : slot (previous ++ o ∷ []) p ≡ o = ap (slot (previous ++ o ∷ [])) (same ∙ sym size) ∙ get_or-append_seam previous o [] None in
          subst (λ v. IsNearest bs x.v4.0 p v) (sym put) (subst (λ (n : ℕ). IsNearest bs x.v4.0 n o) (sym same) at_i))
    ]

-- what the code reads at a place: the binding there
abbrev pub no_binding : Binding
no_binding = record { b4 = record { 0 = 0 }; v4 = record { 0 = 0 }; offset = 0; length = 0; psid = 0 }

abbrev pub read : List Binding → ℕ → Binding
read bs p = slice_index_or bs p no_binding

pub read_is : (bs : List Binding) (p : ℕ) → p < length bs → slice_get bs p ≡ Some (read bs p)
read_is bs p l = slice_get-get_or bs p no_binding l
