-- A binding owns exactly what it has, and an owner that is found is listed.
use Rattle.std.proofs.Common.{◌≡◌, ℕ, zero, suc, ◌-◌, ◌/◌, ◌%◌, ◌^◌, ◌<◌, ◌⊎◌, inl, inr, Bool, true, false, Some, List, [], ◌∷◌, ◌&&◌, ◌==◌, filter, if◌then◌else◌, refl, sym, ap, ◌∙◌, nat_lt, arith}
use Rattle.std.specs.Prelude.{◌↔◌, slice_get}
use Rattle.std.proofs.lemmas.Bool.{and_parts, eq-eqb, eqb-true, lt-ltb, ltb-true}
use Rattle.std.proofs.lemmas.Nat.{pow_below, pow_pos}
use Rattle.std.proofs.Math.Nat.{div_self, mod-eq_of_lt, zero-div}
use Rattle.aftr_base.specs.declared.numbers.V4.{V4}
use Rattle.port_set.proofs.Laws.{in_set_from, in_set_true}
use Rattle.port_set.specs.PortSets.{InSet, in_set}
use Rattle.binding_rules.specs.Bindings.{bound, is_bound, owns}
use Rattle.binding_rules.specs.Owning.{HasWanted, IsBindingOf}
use Rattle.binding_rules.specs.declared.binding.Binding.{Binding}
use Rattle.binding_rules.specs.declared.binding.Want.{Want}
use Rattle.binding_rules.specs.declared.binding.Want.TheVariants as want

both : (a b : Bool) → a ≡ true → b ≡ true → (a && b) ≡ true
both true true e f = refl
both true false e f = f
both false b e f = e

owned_has : (w : Want) (b : Binding) → owns w b ≡ true → HasWanted w b
owned_has (want.Port p) b is =
    let parts = and_parts (nat_lt p 65536) (in_set b.offset b.length b.psid p) is in
    in_set_from b.offset b.length b.psid p (ltb-true p 65536 parts.0) parts.1
owned_has want.Whole b is =
    let parts = and_parts (b.offset == 0) (b.length == 0) is in
    (eqb-true b.offset 0 parts.0, eqb-true b.length 0 parts.1)

has_owned : (w : Want) (b : Binding) → HasWanted w b → owns w b ≡ true
has_owned (want.Port p) b has =
    both (nat_lt p 65536) (in_set b.offset b.length b.psid p) (lt-ltb p 65536 has.is_port) (in_set_true b.offset b.length b.psid p has)
has_owned want.Whole b has = both (b.offset == 0) (b.length == 0) (eq-eqb b.offset 0 has.0) (eq-eqb b.length 0 has.1)

pub owns_what_it_has : (w : Want) (b : Binding) → (owns w b ≡ true) ↔ HasWanted w b
owns_what_it_has w b = (owned_has w b, has_owned w b)

-- what a filter keeps stands in the list and passes
pub record IsKeptOf {X : Type 0} (test : X → Bool) (xs : List X) (x : X) : Type 0 where
  pub at : ℕ
  pub there : slice_get xs at ≡ Some x
  pub passes : test x ≡ true

kept_one : {X : Type 0} (test : X → Bool) (xs : List X) (x : X) → filter test xs ≡ x ∷ [] → IsKeptOf test xs x
kept_one test [] x is = absurd cc
kept_one {X = X} test (y ∷ xs) x is = by_test (test y) refl (λ e. kept_one test xs x e) is
  where
    by_test : (b : Bool) → test y ≡ b → (filter test xs ≡ x ∷ [] → IsKeptOf test xs x) → (if b then y ∷ filter test xs else filter test xs) ≡ x ∷ [] →
        IsKeptOf test (y ∷ xs) x
    by_test true e rest is =
        let this : y ≡ x = cc in
        record { at = 0; there = ap Some this; passes = ap test (sym this) ∙ e }
    by_test false e rest is = let found = rest is in record { at = suc found.at; there = found.there; passes = found.passes }

-- a binding of offset 0 and length 0 has every port
every_of_whole : (a k s p : ℕ) → a ≡ 0 → k ≡ 0 → s < 2 ^ k → p < 65536 → InSet a k s p
every_of_whole a zero s p first short fits small = record {
  is_port = small;
  identifier = rw first (omega (arith, fits, small));
  not_low = inl first;
}
every_of_whole a (suc k) s p first short fits small = absurd cc

-- 2 ^ (15 - k) is a port whose identifier is 1, where an identifier has k + 1 bits; that of port 0 is 0
one_bit : (a k : ℕ) → a ≡ 0 → 2 ^ (16 - suc k) / 2 ^ (16 - a - suc k) % 2 ^ suc k ≡ 1
one_bit a k first = rw first (rw (div_self (pow_pos (16 - suc k))) (mod-eq_of_lt (omega (arith, pow_pos k))))

zero_bit : (n k : ℕ) → 0 / n % 2 ^ k ≡ 0
zero_bit n k = rw (zero-div n) (mod-eq_of_lt (pow_pos k))

no_length : (a k s : ℕ) → a ≡ 0 → ((p : ℕ) → p < 65536 → InSet a k s p) → k ≡ 0
no_length a zero s first every = refl
no_length a (suc k) s first every =
    let one : 1 ≡ s = sym (one_bit a k first) ∙ (every (2 ^ (16 - suc k)) (pow_below (16 - suc k) 16 (omega arith))).identifier in
    let none : 0 ≡ s = sym (zero_bit (2 ^ (16 - a - suc k)) (suc k)) ∙ (every 0 (omega arith)).identifier in
    absurd (omega (arith, one, none))

no_offset : (a : ℕ) → (a ≡ 0) ⊎ (0 < 0 / 2 ^ (16 - a)) → a ≡ 0
no_offset a (inl is) = is
no_offset a (inr some) = let none = zero-div (2 ^ (16 - a)) in absurd (omega (arith, some, none))

-- a binding that has each port has offset 0 and length 0
whole_of_every : (a k s : ℕ) → ((p : ℕ) → p < 65536 → InSet a k s p) → (a ≡ 0) × (k ≡ 0)
whole_of_every a k s every =
    let first = no_offset a (every 0 (omega arith)).not_low in
    (first, no_length a k s first every)

pub whole_is_every_port : (b : Binding) → b.psid < 2 ^ b.length → HasWanted want.Whole b ↔ ((p : ℕ) → p < 65536 → HasWanted (want.Port p) b)
whole_is_every_port b fits = (λ whole p small. every_of_whole b.offset b.length b.psid p whole.0 whole.1 fits small, whole_of_every b.offset b.length b.psid)

pub owners_are_listed : (bindings : List Binding) (v4 : V4) (w : Want) (b : Binding) → bound bindings v4 w ≡ b ∷ [] → IsBindingOf bindings v4 w b
owners_are_listed bindings v4 w b is =
    let kept = kept_one (is_bound v4 w) bindings b is in
    let parts = and_parts (b.v4.0 == v4.0) (owns w b) kept.passes in
    record { at = kept.at; listed = kept.there; address = eqb-true b.v4.0 v4.0 parts.0; has = owned_has w b parts.1 }
