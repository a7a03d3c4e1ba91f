-- The list of the owned ports has the members of the set, in ascending order.
use Rattle.std.proofs.Common.{◌≡◌, ℕ, zero, suc, ◌+◌, ◌<◌, ◌↔◌, Bool, true, List, [], ◌∷◌, length, get_or, slice_index_or, filter, Contains, All, inl, inr, ap, ◌∙◌, arith}
use Rattle.std.specs.List.{range_with_len}
use Rattle.std.specs.List.Sorted.{IsStrictlyIncreasing}
use Rattle.std.proofs.lemmas.List.FromFn.{length-range_with_len, get_or-range_with_len}
use Rattle.std.proofs.lemmas.List.Elements.{All-contains, All-from_get_or, All-filter, filter_passes}
use Rattle.std.proofs.lemmas.List.Kept.{IsStrictlyIncreasing-filter}
use Rattle.std.proofs.lemmas.Bool.{and_parts, and_from, or_cases, or_left, or_right, eqb-true, eq-eqb, ltb-true, lt-ltb, cases_Bool}
use Rattle.aftr_base.proofs.MemberLemmas.{contains_after}
use Rattle.port_set.specs.PortSets.{InSet, in_set, port_count, owned_ports}
use Rattle.port_set.proofs.Shares.{port_count_is}

-- a filter keeps an element that passes
contains_filter : (f : ℕ → Bool) (p : ℕ) → f p ≡ true → (xs : List ℕ) (i : ℕ) → i < length xs
    → slice_index_or xs i p ≡ p → Contains (filter f xs) p
contains_filter f p h [] i l e = absurd (omega arith)
contains_filter f p h (x ∷ xs) zero l e =
    let here : f x ≡ true = ap f e ∙ h in
    rw here (0, omega arith, e)
contains_filter f p h (x ∷ xs) (suc i) l e =
    let rest : Contains (filter f xs) p = contains_filter f p h xs i (omega arith) e in
    elim (cases_Bool (f x)) [ inl y ↦ rw y (contains_after x (filter f xs) p rest) | inr n ↦ rw n rest ]

range_contains : (n p : ℕ) → p < n → slice_index_or (range_with_len 0 n) p p ≡ p
range_contains n p l = get_or-range_with_len 0 n p p l ∙ omega arith

range_below : (n : ℕ) → All (λ (p : ℕ). p < n) (range_with_len 0 n)
range_below n =
    All-from_get_or (λ (p : ℕ). p < n) (range_with_len 0 n) 0 (λ i l.
    let small : i < n = omega (arith, length-range_with_len 0 n) in
    rw (get_or-range_with_len 0 n i 0 small) (omega arith))

range_ascends : (n : ℕ) → IsStrictlyIncreasing (range_with_len 0 n)
range_ascends n k l =
    let small : k + 1 < n = omega (arith, length-range_with_len 0 n) in
    let here : get_or (range_with_len 0 n) k 0 ≡ 0 + k = get_or-range_with_len 0 n k 0 (omega arith) in
    let next : get_or (range_with_len 0 n) (k + 1) 0 ≡ 0 + (k + 1) = get_or-range_with_len 0 n (k + 1) 0 small in
    omega (arith, here, next)

pub in_set_true : (a k s p : ℕ) → InSet a k s p → in_set a k s p ≡ true
in_set_true a k s p h =
    and_from _ _ (eq-eqb _ _ h.identifier)
    (elim h.not_low [ inl z ↦ or_left _ _ (eq-eqb _ _ z) | inr n ↦ or_right _ _ (lt-ltb _ _ n) ])

pub in_set_from : (a k s p : ℕ) → p < 65536 → in_set a k s p ≡ true → InSet a k s p
in_set_from a k s p l h =
    let parts = and_parts _ _ h in
    record {
      is_port = l;
      identifier = eqb-true _ _ parts.0;
      not_low = elim (or_cases _ _ parts.1) [ inl z ↦ inl (eqb-true _ _ z) | inr n ↦ inr (ltb-true _ _ n) ];
    }

pub owned_ports_members : (a k s p : ℕ) → Contains (owned_ports a k s) p ↔ InSet a k s p
unfolding owned_ports
owned_ports_members a k s p = (there, back)
  where
    f : ℕ → Bool
    f = in_set a k s

    there : Contains (filter f (range_with_len 0 port_count)) p → InSet a k s p
    there h =
        let passes : f p ≡ true = All-contains (λ (q : ℕ). f q ≡ true) _ p (filter_passes f (range_with_len 0 port_count)) h in
        let below : p < port_count =
        All-contains (λ (q : ℕ). q < port_count) _ p (All-filter f (λ (q : ℕ). q < port_count) _ (range_below port_count)) h in
        in_set_from a k s p (omega (arith, port_count_is)) passes

    back : InSet a k s p → Contains (filter f (range_with_len 0 port_count)) p
    back h =
        let small : p < port_count = omega (arith, port_count_is, h.is_port) in
        contains_filter f p (in_set_true a k s p h) (range_with_len 0 port_count) p
        (omega (arith, length-range_with_len 0 port_count)) (range_contains port_count p small)

pub owned_ports_ascend : (a k s : ℕ) → IsStrictlyIncreasing (owned_ports a k s)
unfolding owned_ports
owned_ports_ascend a k s = IsStrictlyIncreasing-filter (in_set a k s) (range_with_len 0 port_count) (range_ascends port_count)
