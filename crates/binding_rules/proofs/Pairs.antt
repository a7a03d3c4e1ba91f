-- A step of the walk over the places of an address, from the last one down: p is the place, x the binding there.
use Rattle.std.proofs.Common.{◌≡◌, ℕ, ◌<◌, ◌≤◌, ◌⊎◌, inl, inr, Bool, true, Option, Some, None, List, subst, refl, sym, ap, ◌∙◌, arith}
use Rattle.std.specs.Prelude.{slice_get}
use Rattle.std.proofs.lemmas.Bool.{cases_Bool, cases_lt, true≢false, eq-eqb}
use Rattle.std.proofs.lemmas.Option.{same_Some}
use Rattle.binding_rules.specs.declared.binding.Binding.{Binding}
use Rattle.binding_rules.specs.declared.conflicts.Pair.{Pair}
use Rattle.binding_rules.specs.Refusals.{AtBoth}
use Rattle.binding_rules.specs.Scans.{IsLeast, IsLeastPair, IsFirstPair, ArePair, IsNearest, IsLinked, IsLast, IsLater, IsAtAddress, HaveCommonKey, AreShared, AreFresh, IsMet, IsTaken, IsOwnersOf, has_key, owner_named, slot, paired, earlier_of}
use Rattle.binding_rules.specs.Conflicts.{HaveCommonPort}
use Rattle.binding_rules.proofs.Keys.{port_is_key, key_is_port}
use Rattle.binding_rules.proofs.Leasts.{least_iff, pair_iff, pair_or}
use Rattle.binding_rules.proofs.Links.{IsOf, later_split, later_behind, later_here, least_here, least_kept, none_later, near_of, nearest_is_of, same_binding}

-- a binding of the address behind the place
abbrev pub IsBehind : List Binding → ℕ → Option ℕ → ℕ → Type 0
IsBehind bs a at n = IsLater bs a at (λ x. Unit {0}) n

-- each slot names the least place behind `at` that has its key
abbrev pub AreCounted : Bool → List Binding → ℕ → Option ℕ → List (Option ℕ) → Type 0
AreCounted bp bs a at owners = (key : ℕ) → key < 65536
    → IsLeast (IsLater bs a at (λ x. has_key bp x key ≡ true)) (owner_named bs a (slot owners key))

-- what holds before each place of the walk
pub record IsWalked (bp : Bool) (bs : List Binding) (a : ℕ) (at : Option ℕ) (before owners : List (Option ℕ)) (best : Option Pair) : Type 0 where
  pub here : IsOf bs a at
  pub slots : AreCounted bp bs a at owners
  pub first : IsFirstPair bs (AreShared bp) (IsBehind bs a at) best
  pub names : IsOwnersOf bs a before owners

pub counted_here : (bs : List Binding) (a p : ℕ) (x : Binding) → slice_get bs p ≡ Some x → x.v4.0 ≡ a → owner_named bs a (Some p) ≡ Some p
counted_here bs a p x e h =
    let same = eq-eqb x.v4.0 a h in
    rw (e, same) refl

module _ (bp : Bool) (bs : List Binding) (a p : ℕ) (x : Binding) (there : slice_get bs p ≡ Some x) (address : x.v4.0 ≡ a) where
  to_later : (f s : ℕ) → f ≡ p → AtBoth bs f s (AreShared bp) → IsLater bs a (Some p) (HaveCommonKey bp x) s
  to_later f s e both =
      let at_f = subst (λ (n : ℕ). slice_get bs n ≡ Some both.there.0) e both.there.1 in
      let same : both.there.0 ≡ x = same_binding bs p both.there.0 x at_f there in
      let h = both.there.2 in
      let shared = subst (λ (z : Binding). AreShared bp z h.0) same h.2 in
      record { above = omega (arith, both.ordered, e); there = (h.0, h.1, (sym shared.address ∙ address, shared.common)) }

  pub owners_next : (owners before now : List (Option ℕ)) → IsTaken bp x p owners now → IsOwnersOf bs a before owners → IsOwnersOf bs a before now
  owners_next owners before now taken old key n l e =
      elim (cases_Bool (has_key bp x key)) [
        | inl t ↦ (let same : p ≡ n = same_Some p n (sym (taken.taken key l t) ∙ e) in
            inr (subst (IsAtAddress bs a) same (x, there, address)))
        | inr t ↦ old key n l (sym (taken.kept key l t) ∙ e)
      ]

  pub pair_here : (met : Option ℕ) → IsLeast (IsLater bs a (Some p) (HaveCommonKey bp x)) met
      → IsLeastPair (λ f s. (f ≡ p) × AtBoth bs f s (AreShared bp)) (paired p met)
  pair_here None least = λ f s q. least s (to_later f s q.0 q.1)
  pair_here (Some m) least =
      let h = least.0.there in (
        (
          refl,
          record {
            ordered = least.0.above;
            there = (x, there, (h.0, h.1, record { address = address ∙ sym h.2.0; common = h.2.1 }));
          },
        ),
        λ f s q.
            let m_le : m ≤ s = least.1 s (to_later f s q.0 q.1) in
            elim (cases_lt m s) [ inl l ↦ inl l | inr g ↦ inr (omega arith, omega (arith, q.0)) ],
      )

  pub best_next : (o : Option ℕ) (best : Option Pair) (met : Option ℕ) → IsNearest bs a p o
      → IsFirstPair bs (AreShared bp) (IsBehind bs a (Some p)) best
      → IsLeast (IsLater bs a (Some p) (HaveCommonKey bp x)) met
      → IsFirstPair bs (AreShared bp) (IsBehind bs a o) (earlier_of best (paired p met))
  best_next o best met nearest first least =
      pair_iff (λ f s. ArePair bs (AreShared bp) (IsBehind bs a (Some p)) f s ⊎ ((f ≡ p) × AtBoth bs f s (AreShared bp)))
      (ArePair bs (AreShared bp) (IsBehind bs a o)) (earlier_of best (paired p met))
      (λ f s e. elim e [
        | inl h ↦ (later_behind bs a p o (λ y. Unit {0}) f nearest h.0, h.1)
        | inr h ↦ (subst (IsBehind bs a o) (sym h.0) (later_here bs a p o (λ y. Unit {0}) nearest (x, there, (address, tt))), h.1)
      ])
      (λ f s h. elim (later_split bs a p o (λ y. Unit {0}) f nearest h.0) [
        | inl behind ↦ inl (behind, h.1)
        | inr same ↦ inr (same.0, h.1)
      ])
      (pair_or (ArePair bs (AreShared bp) (IsBehind bs a (Some p))) (λ f s. (f ≡ p) × AtBoth bs f s (AreShared bp)) best (paired p met)
      first (pair_here met least))

module _ (bp : Bool) (bs : List Binding) (a p : ℕ) (x : Binding) (owners : List (Option ℕ))
    (there : slice_get bs p ≡ Some x) (address : x.v4.0 ≡ a) (slots : AreCounted bp bs a (Some p) owners) where
  -- a place behind with a key of the binding is not before one that a slot names
  reached : (key n : ℕ) → key < 65536 → has_key bp x key ≡ true → IsLater bs a (Some p) (λ y. has_key bp y key ≡ true) n
      → (m : ℕ) × IsMet bp x bs a owners m × (m ≤ n)
  reached key n l has h = by_value (owner_named bs a (slot owners key)) refl (slots key l)
    where
      by_value : (o : Option ℕ) → owner_named bs a (slot owners key) ≡ o → IsLeast (IsLater bs a (Some p) (λ y. has_key bp y key ≡ true)) o
          → (m : ℕ) × IsMet bp x bs a owners m × (m ≤ n)
      by_value None e least = absurd (least n h)
      by_value (Some m) e least = (m, record { key = key; in_range = l; has = has; named = e }, least.1 n h)

  met_is_later : (m : ℕ) → IsMet bp x bs a owners m → IsLater bs a (Some p) (HaveCommonKey bp x) m
  met_is_later m met =
      let least = subst (λ o. IsLeast (IsLater bs a (Some p) (λ y. has_key bp y met.key ≡ true)) o) met.named (slots met.key met.in_range) in
      let h = least.0.there in
      record { above = least.0.above; there = (h.0, h.1, (h.2.0, (met.key, met.in_range, met.has, h.2.1))) }

  pub shared_least : (met : Option ℕ) → IsLeast (IsMet bp x bs a owners) met → IsLeast (IsLater bs a (Some p) (HaveCommonKey bp x)) met
  shared_least None least = λ n h.
      let common = h.there.2.1 in
      let r = reached common.0 n common.1 common.2 (record { above = h.above; there = (h.there.0, h.there.1, (h.there.2.0, common.3)) }) in
      least r.0 r.1
  shared_least (Some m) least = (
    met_is_later m least.0,
    λ n h.
        let common = h.there.2.1 in
        let r = reached common.0 n common.1 common.2 (record { above = h.above; there = (h.there.0, h.there.1, (h.there.2.0, common.3)) }) in
        omega (arith, least.1 r.0 r.1, r.2),
  )

  pub slots_next : (o : Option ℕ) (now : List (Option ℕ)) → IsNearest bs a p o → IsTaken bp x p owners now → AreCounted bp bs a o now
  slots_next o now nearest taken key l =
      elim (cases_Bool (has_key bp x key)) [
        | inl t ↦ rw (taken.taken key l t, counted_here bs a p x there address)
            (least_here bs a p o (λ y. has_key bp y key ≡ true) nearest (x, there, (address, t)))
        | inr t ↦ rw (taken.kept key l t)
            (least_kept bs a p o (λ y. has_key bp y key ≡ true) (owner_named bs a (slot owners key)) nearest
            (λ h. true≢false (sym h.2.1 ∙ (ap (λ (z : Binding). has_key bp z key) (same_binding bs p h.0 x h.1 there) ∙ t)))
            (slots key l))
      ]

  pub walked_next : (previous before now : List (Option ℕ)) (best : Option Pair) (met : Option ℕ) → IsLinked bs previous
      → IsFirstPair bs (AreShared bp) (IsBehind bs a (Some p)) best → IsOwnersOf bs a before owners
      → IsLeast (IsMet bp x bs a owners) met → IsTaken bp x p owners now
      → IsWalked bp bs a (slot previous p) before now (earlier_of best (paired p met))
  walked_next previous before now best met linked first old least taken =
      let nearest = near_of bs previous a p linked (x, there, address) in
      record {
        here = nearest_is_of bs a p (slot previous p) nearest;
        slots = slots_next (slot previous p) now nearest taken;
        first = best_next bp bs a p x there address (slot previous p) best met nearest first (shared_least met least);
        names = owners_next bp bs a p x there address owners before now taken old;
      }

-- before the walk, and after it
pub walked_none : (bp : Bool) (bs : List Binding) (a last : ℕ) (owners : List (Option ℕ)) → IsLast bs a last → AreFresh bs a owners
    → IsWalked bp bs a (Some last) owners owners None
walked_none bp bs a last owners h fresh = record {
  here = h.here;
  slots = λ key l. rw (fresh key l) (none_later bs a last (λ x. has_key bp x key ≡ true) h);
  first = λ f s q. none_later bs a last (λ x. Unit {0}) h f q.0;
  names = λ key n l e. inl e;
}

all_behind : (bp : Bool) (bs : List Binding) (a : ℕ) (best : Option Pair) → IsFirstPair bs (AreShared bp) (IsBehind bs a None) best
    → IsFirstPair bs (AreShared bp) (IsAtAddress bs a) best
all_behind bp bs a best first =
    pair_iff (ArePair bs (AreShared bp) (IsBehind bs a None)) (ArePair bs (AreShared bp) (IsAtAddress bs a)) best
    (λ f s h. ((h.0.there.0, h.0.there.1, h.0.there.2.0), h.1))
    (λ f s h. (record { above = tt; there = (h.0.0, h.0.1, (h.0.2, tt)) }, h.1))
    first

pub walked_all : (bp : Bool) (bs : List Binding) (a : ℕ) (at : Option ℕ) (before owners : List (Option ℕ)) (best : Option Pair) → at ≡ None
    → IsWalked bp bs a at before owners best → IsFirstPair bs (AreShared bp) (IsAtAddress bs a) best
walked_all bp bs a at before owners best e walked =
    all_behind bp bs a best (subst (λ o. IsWalked bp bs a o before owners best) e walked).first

-- the same walk without slots, where the keys are ports
pub record IsCompared (bs : List Binding) (a : ℕ) (at : Option ℕ) (best : Option Pair) : Type 0 where
  pub here : IsOf bs a at
  pub first : IsFirstPair bs (AreShared true) (IsBehind bs a at) best

pub compared_none : (bs : List Binding) (a last : ℕ) → IsLast bs a last → IsCompared bs a (Some last) None
compared_none bs a last h = record { here = h.here; first = λ f s q. none_later bs a last (λ x. Unit {0}) h f q.0 }

pub compared_next : (bs : List Binding) (previous : List (Option ℕ)) (a p : ℕ) (x : Binding) (best : Option Pair) (met : Option ℕ)
    → IsLinked bs previous → slice_get bs p ≡ Some x → x.v4.0 ≡ a → IsCompared bs a (Some p) best
    → IsLeast (IsLater bs x.v4.0 (Some p) (HaveCommonPort x)) met → IsCompared bs a (slot previous p) (earlier_of best (paired p met))
compared_next bs previous a p x best met linked there address walked least =
    let nearest = near_of bs previous a p linked (x, there, address) in
    let keys : IsLeast (IsLater bs a (Some p) (HaveCommonKey true x)) met =
    least_iff (IsLater bs x.v4.0 (Some p) (HaveCommonPort x)) (IsLater bs a (Some p) (HaveCommonKey true x)) met
    (λ n h. record { above = h.above; there = (h.there.0, h.there.1, (h.there.2.0 ∙ address, port_is_key x h.there.0 h.there.2.1)) })
    (λ n h. record { above = h.above; there = (h.there.0, h.there.1, (h.there.2.0 ∙ sym address, key_is_port x h.there.0 h.there.2.1)) })
    least in
    record {
      here = nearest_is_of bs a p (slot previous p) nearest;
      first = best_next true bs a p x there address (slot previous p) best met nearest walked.first keys;
    }

pub compared_all : (bs : List Binding) (a : ℕ) (at : Option ℕ) (best : Option Pair) → at ≡ None → IsCompared bs a at best
    → IsFirstPair bs (AreShared true) (IsAtAddress bs a) best
compared_all bs a at best e walked =
    let w = subst (λ o. IsCompared bs a o best) e walked in
    all_behind true bs a best w.first
