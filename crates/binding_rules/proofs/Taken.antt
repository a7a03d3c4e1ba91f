-- How many slots count for an address: each binding that meets no other takes as many more as it has ports.
use Rattle.std.proofs.Common.{◌≡◌, ℕ, zero, suc, ◌+◌, ◌<◌, ◌≤◌, Bool, true, false, if◌then◌else◌, Option, Some, None, is_some, List, ◌∷◌, length, filter, refl, ap, ◌∙◌, arith}
use Rattle.std.specs.Prelude.{slice_get}
use Rattle.std.specs.List.{range_with_len}
use Rattle.port_set.specs.PortSets.{in_set, owned_ports, port_count}
use Rattle.binding_rules.specs.declared.binding.Binding.{Binding}
use Rattle.binding_rules.specs.Scans.{IsLeast, IsMet, IsTaken, owner_named, slot}
use Rattle.binding_rules.specs.Steps.{port_steps}
use Rattle.binding_rules.proofs.Pairs.{counted_here}

abbrev pub is_named : List Binding → ℕ → List (Option ℕ) → ℕ → Bool
is_named bs a owners key = is_some (owner_named bs a (slot owners key))

abbrev pub taken : List Binding → ℕ → List (Option ℕ) → ℕ
taken bs a owners = length (filter (is_named bs a owners) (range_with_len 0 port_count))

-- the third is one of the first two, which are never both
abbrev IsEither : Bool → Bool → Bool → Type 0
IsEither true true t = ⊥
IsEither true false t = t ≡ true
IsEither false true t = t ≡ true
IsEither false false t = t ≡ false

counted_by : (o s t : Bool) (k : ℕ) (xs ys zs : List ℕ) → IsEither o s t → length zs ≡ length xs + length ys →
    length (if t then k ∷ zs else zs) ≡ length (if o then k ∷ xs else xs) + length (if s then k ∷ ys else ys)
counted_by true true t k xs ys zs h is = absurd h
counted_by true false true k xs ys zs h is = omega (arith, is)
counted_by true false false k xs ys zs h is = absurd cc
counted_by false true true k xs ys zs h is = omega (arith, is)
counted_by false true false k xs ys zs h is = absurd cc
counted_by false false true k xs ys zs h is = absurd cc
counted_by false false false k xs ys zs h is = is

counted : (from n : ℕ) (o s t : ℕ → Bool) → ((k : ℕ) → k < from + n → IsEither (o k) (s k) (t k)) →
    length (filter t (range_with_len from n)) ≡ length (filter o (range_with_len from n)) + length (filter s (range_with_len from n))
counted from zero o s t h = refl
counted from (suc n) o s t h =
    let more : List ℕ = range_with_len (from + 1) n in
    counted_by (o from) (s from) (t from) from (filter o more) (filter s more) (filter t more) (h from (omega arith)) (counted (from + 1) n o s t (λ k l. h k (omega (arith, l))))

most_by : (p : Bool) (k n : ℕ) (xs : List ℕ) → length xs ≤ n → length (if p then k ∷ xs else xs) ≤ suc n
most_by true k n xs less = omega (arith, less)
most_by false k n xs less = omega (arith, less)

most : (p : ℕ → Bool) (from n : ℕ) → length (filter p (range_with_len from n)) ≤ n
most p from zero = omega arith
most p from (suc n) = most_by (p from) from n (filter p (range_with_len (from + 1) n)) (most p (from + 1) n)

ports_are : port_count ≡ 65536
unfolding port_count
ports_are = refl

pub taken_most : (bs : List Binding) (a : ℕ) (owners : List (Option ℕ)) → taken bs a owners ≤ 65536
taken_most bs a owners = omega (arith, ports_are, most (is_named bs a owners) 0 port_count)

pub ports_most : (x : Binding) → port_steps x ≤ 65536
unfolding owned_ports
ports_most x = omega (arith, ports_are, most (in_set x.offset x.length x.psid) 0 port_count)

named_by : (o : Option ℕ) (n : Option ℕ) → o ≡ n → is_some o ≡ is_some n
named_by o n e = ap is_some e

-- a binding that meets no other
pub taken_next : (bs : List Binding) (a i : ℕ) (x : Binding) (owners now : List (Option ℕ)) → slice_get bs i ≡ Some x → x.v4.0 ≡ a → IsLeast (IsMet true x bs a owners) None → IsTaken true x i owners now →
    taken bs a now ≡ taken bs a owners + port_steps x
unfolding owned_ports
taken_next bs a i x owners now there address none got =
    counted 0 port_count (is_named bs a owners) (in_set x.offset x.length x.psid) (is_named bs a now)
    (λ k l. by_test k (omega (arith, ports_are, l)) (in_set x.offset x.length x.psid k) (owner_named bs a (slot owners k)) refl refl)
  where
    by_test : (k : ℕ) → k < 65536 → (s : Bool) (o : Option ℕ) → in_set x.offset x.length x.psid k ≡ s → owner_named bs a (slot owners k) ≡ o → IsEither (is_some o) s (is_named bs a now k)
    by_test k l true (Some n) has named = none n (record { key = k; in_range = l; has = has; named = named })
    by_test k l true None has named = ap is_some (ap (owner_named bs a) (got.taken k l has) ∙ counted_here bs a i x there address)
    by_test k l false (Some n) has named = ap is_some (ap (owner_named bs a) (got.kept k l has) ∙ named)
    by_test k l false None has named = ap is_some (ap (owner_named bs a) (got.kept k l has) ∙ named)
