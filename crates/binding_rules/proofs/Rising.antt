-- The walk over the places of an address, from the first one up.
use Rattle.std.proofs.Common.{◌≡◌, ℕ, ◌+◌, ◌<◌, ◌≤◌, inl, inr, Bool, true, Option, Some, None, List, length, subst, sym, ap, ◌∙◌, arith}
use Rattle.std.specs.Prelude.{slice_get}
use Rattle.std.proofs.lemmas.Bool.{cases_Bool, cases_lt, cases_eq}
use Rattle.std.proofs.lemmas.Option.{none-some, same_Some, slice_get_within}
use Rattle.binding_rules.specs.declared.binding.Binding.{Binding}
use Rattle.binding_rules.specs.Refusals.{At}
use Rattle.binding_rules.specs.Scans.{IsLeast, IsFirstPair, IsFollowing, ArePair, IsAtAddress, AreShared, AreFresh, IsMet, IsTaken, IsOwnersOf, has_key, owner_named, slot}
use Rattle.binding_rules.proofs.Links.{at_address_of, same_binding}
use Rattle.binding_rules.proofs.Pairs.{counted_here, owners_next}

-- what holds before the place i: each key has at most one owner among the places of the address before it, and the slot
-- of the key names that one
pub record IsRisen (bp : Bool) (bs : List Binding) (a i : ℕ) (before owners : List (Option ℕ)) : Type 0 where
  pub named : (key n : ℕ) → key < 65536 → owner_named bs a (slot owners key) ≡ Some n
      → (n < i) × At bs n (λ x. (x.v4.0 ≡ a) × (has_key bp x key ≡ true))
  pub taken : (key n : ℕ) (x : Binding) → key < 65536 → n < i → slice_get bs n ≡ Some x → x.v4.0 ≡ a → has_key bp x key ≡ true
      → owner_named bs a (slot owners key) ≡ Some n
  pub names : IsOwnersOf bs a before owners

pub risen_none : (bp : Bool) (bs : List Binding) (a : ℕ) (owners : List (Option ℕ)) → AreFresh bs a owners → IsRisen bp bs a 0 owners owners
risen_none bp bs a owners fresh = record {
  named = λ key n l e. absurd (none-some n (sym (fresh key l) ∙ e));
  taken = λ key n x l m there address has. absurd (omega (arith, m));
  names = λ key n l e. inl e;
}

-- no two places before the place share a key
apart : (bp : Bool) (bs : List Binding) (a i : ℕ) (before owners : List (Option ℕ)) → IsRisen bp bs a i before owners → (f s : ℕ) → s < i
    → ArePair bs (AreShared bp) (IsAtAddress bs a) f s → ⊥
apart bp bs a i before owners risen f s l h =
    let both = h.1.there in
    let other = both.2 in
    let x = both.0 in
    let y = other.0 in
    let common = other.2.common in
    let at_f : x.v4.0 ≡ a = at_address_of bs a f x both.1 h.0 in
    let at_s : y.v4.0 ≡ a = sym other.2.address ∙ at_f in
    let first = risen.taken common.0 f x common.1 (omega (arith, h.1.ordered, l)) both.1 at_f common.2 in
    let second = risen.taken common.0 s y common.1 l other.1 at_s common.3 in
    omega (arith, h.1.ordered, same_Some f s (sym first ∙ second))

pub risen_all : (bp : Bool) (bs : List Binding) (a : ℕ) (before owners : List (Option ℕ)) → IsRisen bp bs a (length bs) before owners
    → IsFirstPair bs (AreShared bp) (IsAtAddress bs a) None
risen_all bp bs a before owners risen f s h =
    let other = h.1.there.2 in
    apart bp bs a (length bs) before owners risen f s (slice_get_within bs s other.0 other.1) h

-- from one place to a later one, where none between them is of the address
pub risen_past : (bp : Bool) (bs : List Binding) (a i j : ℕ) (before owners : List (Option ℕ)) → i ≤ j
    → ((n : ℕ) → i ≤ n → n < j → IsAtAddress bs a n → ⊥) → IsRisen bp bs a i before owners → IsRisen bp bs a j before owners
risen_past bp bs a i j before owners up none risen = record {
  named = λ key n l e. (let h = risen.named key n l e in (omega (arith, h.0, up), h.1));
  taken = λ key n x l m at_n address has. elim (cases_lt n i) [
    | inl less ↦ risen.taken key n x l less at_n address has
    | inr more ↦ absurd (none n more m (x, at_n, address))
  ];
  names = risen.names;
}

-- before the place, or before the end where none is given
abbrev pub IsRisenTo : Bool → List Binding → ℕ → Option ℕ → List (Option ℕ) → List (Option ℕ) → Type 0
IsRisenTo bp bs a None before owners = IsRisen bp bs a (length bs) before owners
IsRisenTo bp bs a (Some i) before owners = IsRisen bp bs a i before owners

pub risen_first : (bp : Bool) (bs : List Binding) (a head : ℕ) (owners : List (Option ℕ)) → IsLeast (IsAtAddress bs a) (Some head)
    → AreFresh bs a owners → IsRisen bp bs a head owners owners
risen_first bp bs a head owners least fresh =
    risen_past bp bs a 0 head owners owners (omega arith) (λ n m l h. absurd (omega (arith, l, least.1 n h))) (risen_none bp bs a owners fresh)

pub risen_up : (bp : Bool) (bs : List Binding) (a i : ℕ) (o : Option ℕ) (before now : List (Option ℕ)) → i < length bs
    → IsFollowing bs a i (length bs) o → IsRisen bp bs a (i + 1) before now → IsRisenTo bp bs a o before now
risen_up bp bs a i None before now within follows risen =
    risen_past bp bs a (i + 1) (length bs) before now (omega (arith, within)) (λ n m l h. follows n (omega (arith, m)) l h) risen
risen_up bp bs a i (Some j) before now within follows risen =
    risen_past bp bs a (i + 1) j before now (omega (arith, follows.0)) (λ n m l h. follows.3 n (omega (arith, m)) l h) risen

module _ (bp : Bool) (bs : List Binding) (a i : ℕ) (x : Binding) (before owners : List (Option ℕ)) (there : slice_get bs i ≡ Some x)
    (address : x.v4.0 ≡ a) (risen : IsRisen bp bs a i before owners) where
  pub risen_names : (now : List (Option ℕ)) → IsTaken bp x i owners now → IsOwnersOf bs a before now
  risen_names now taken = owners_next bp bs a i x there address owners before now taken risen.names

  -- a place of the address that shares no key with those before it
  pub risen_next : (now : List (Option ℕ)) → IsLeast (IsMet bp x bs a owners) None → IsTaken bp x i owners now
      → IsRisen bp bs a (i + 1) before now
  risen_next now least taken = record {
    named = λ key n l e. elim (cases_Bool (has_key bp x key)) [
      | inl t ↦ (let here : i ≡ n = same_Some i n (sym (counted_here bs a i x there address) ∙ (sym (ap (owner_named bs a) (taken.taken key l t)) ∙ e)) in
          (omega (arith, here), subst (λ (k : ℕ). At bs k (λ y. (y.v4.0 ≡ a) × (has_key bp y key ≡ true))) here (x, there, (address, t))))
      | inr t ↦ (let h = risen.named key n l (sym (ap (owner_named bs a) (taken.kept key l t)) ∙ e) in (omega (arith, h.0), h.1))
    ];
    taken = λ key n y l m at_n same has. elim (cases_lt n i) [
      | inl less ↦ (let old = risen.taken key n y l less at_n same has in
          elim (cases_Bool (has_key bp x key)) [
            | inl t ↦ absurd (least n (record { key = key; in_range = l; has = t; named = old }))
            | inr t ↦ ap (owner_named bs a) (taken.kept key l t) ∙ old
          ])
      | inr more ↦ (let here : n ≡ i = omega (arith, more, m) in
          let y_is : y ≡ x = same_binding bs i y x (subst (λ (k : ℕ). slice_get bs k ≡ Some y) here at_n) there in
          let t = sym (ap (λ (z : Binding). has_key bp z key) y_is) ∙ has in
          ap (owner_named bs a) (taken.taken key l t) ∙ (counted_here bs a i x there address ∙ ap (λ (k : ℕ). Some k) (sym here)))
    ];
    names = risen_names now taken;
  }

  -- a place of the address that shares a key: it is the second of the first pair, and the least that it shares one with is
  -- the first
  pub risen_found : (first : ℕ) → IsLeast (IsMet bp x bs a owners) (Some first)
      → IsFirstPair bs (AreShared bp) (IsAtAddress bs a) (Some (record { first = first; second = i }))
  risen_found first least =
      let met = least.0 in
      let owner = risen.named met.key first met.in_range met.named in
      let y = owner.1.0 in (
        (
          (y, owner.1.1, owner.1.2.0),
          record {
            ordered = owner.0;
            there = (y, owner.1.1, (x, there, record { address = owner.1.2.0 ∙ sym address; common = (met.key, met.in_range, owner.1.2.1, met.has) }));
          },
        ),
        λ f s h. elim (cases_lt s i) [
          | inl less ↦ absurd (apart bp bs a i before owners risen f s less h)
          | inr more ↦ elim (cases_eq s i) [
            | inr other ↦ inl (omega (arith, more, other))
            | inl same ↦
                (let both = h.1.there in
                let other = both.2 in
                let common = other.2.common in
                let at_f : both.0.v4.0 ≡ a = at_address_of bs a f both.0 both.1 h.0 in
                let x_is : other.0 ≡ x = same_binding bs i other.0 x (subst (λ (k : ℕ). slice_get bs k ≡ Some other.0) same other.1) there in
                let t = sym (ap (λ (z : Binding). has_key bp z common.0) x_is) ∙ common.3 in
                let named = risen.taken common.0 f both.0 common.1 (omega (arith, h.1.ordered, same)) both.1 at_f common.2 in
                inr (sym same, least.1 f (record { key = common.0; in_range = common.1; has = t; named = named })))
          ]
        ],
      )
