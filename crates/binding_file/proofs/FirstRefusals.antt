-- Settings and bindings have at most one first refusal.
use Rattle.std.proofs.Common.{◌≡◌, ℕ, ◌<◌, ◌==◌, Bool, true, false, if◌then◌else◌, List, length, inl, inr, refl, sym, ◌∙◌, ap, subst, arith}
use Rattle.std.proofs.lemmas.Bool.{cases_lt}
use Rattle.binding_rules.specs.Conflicts.{AreMixed}
use Rattle.binding_rules.specs.Refusals.{Applies, AtBoth, IsEarlier, IsFirstRefusal, IsMixed, IsTwice, Turn, turn}
use Rattle.binding_rules.specs.declared.binding.Binding.{Binding}
use Rattle.binding_rules.specs.declared.refused.Refused.{Refused}
use Rattle.binding_rules.specs.declared.refused.Refused.TheVariants as refused
use Rattle.binding_rules.specs.declared.settings.Edition.{Edition}
use Rattle.binding_rules.specs.declared.settings.Softwire.{Softwire}

abbrev is_mixed : Refused → Bool
is_mixed (refused.MixedShape first second) = true
is_mixed refused.Mtu = false
is_mixed refused.Hop = false
is_mixed (refused.TooMany count) = false
is_mixed (refused.Shape place) = false
is_mixed (refused.Psid place) = false
is_mixed (refused.OwnAddress place) = false
is_mixed (refused.Twice first second) = false

-- a refusal, from its turn, the number of bindings, and which of the two that share their turns it is
abbrev made : ℕ → ℕ → ℕ → ℕ → Bool → Refused
made stage place step count mixed =
    if stage == 0 then refused.Mtu
    else if stage == 1 then refused.Hop
    else if stage == 2 then refused.TooMany count
    else if stage == 3 then (if step == 0 then refused.Shape place else if step == 1 then refused.Psid place else refused.OwnAddress place)
    else (if mixed then refused.MixedShape step place else refused.Twice step place)

abbrev remake : List Binding → Refused → Refused
remake bs r = made (turn r).stage (turn r).place (turn r).step (length bs) (is_mixed r)

remade : (e : Edition) (s : Softwire) (bs : List Binding) (r : Refused) → Applies e s bs r → remake bs r ≡ r
remade e s bs refused.Mtu a = refl
remade e s bs refused.Hop a = refl
remade e s bs (refused.TooMany count) a = ap (λ n. refused.TooMany n) (sym a.0)
remade e s bs (refused.Shape place) a = refl
remade e s bs (refused.Psid place) a = refl
remade e s bs (refused.OwnAddress place) a = refl
remade e s bs (refused.MixedShape first second) a = refl
remade e s bs (refused.Twice first second) a = refl

pub record IsSameTurn (t u : Turn) : Type 0 where
  pub stage_is : t.stage ≡ u.stage
  pub place_is : t.place ≡ u.place
  pub step_is : t.step ≡ u.step

-- two bindings of mixed shapes may not have a port in common
not_both : (e : Edition) (bs : List Binding) (first second : ℕ) → AtBoth bs first second (IsMixed e) → AtBoth bs first second (IsTwice e) → ⊥
not_both e bs first second mixed twice =
    let x : Binding = mixed.there.0 in
    let y : Binding = mixed.there.2.0 in
    let same_x : twice.there.0 ≡ x = cc (mixed.there.1, twice.there.1) in
    let same_y : twice.there.2.0 ≡ y = cc (mixed.there.2.1, twice.there.2.1) in
    let X : Binding → Type 0 = λ b. AreMixed e b twice.there.2.0 → ⊥ in
    let Y : Binding → Type 0 = λ b. AreMixed e x b → ⊥ in
    subst Y same_y (subst X same_x twice.there.2.2.allowed) mixed.there.2.2.mixed

at_both : (e : Edition) (bs : List Binding) (first second other_first other_second : ℕ) → first ≡ other_first → second ≡ other_second →
    AtBoth bs first second (IsMixed e) → AtBoth bs other_first other_second (IsTwice e) → ⊥
at_both e bs first second other_first other_second f g mixed twice =
    let F : ℕ → Type 0 = λ n. AtBoth bs n second (IsMixed e) in
    let G : ℕ → Type 0 = λ n. AtBoth bs other_first n (IsMixed e) in
    not_both e bs other_first other_second (subst G g (subst F f mixed)) twice

not_mixed : (r : Refused) → (turn r).stage < 4 → is_mixed r ≡ false
not_mixed refused.Mtu less = refl
not_mixed refused.Hop less = refl
not_mixed (refused.TooMany count) less = refl
not_mixed (refused.Shape place) less = refl
not_mixed (refused.Psid place) less = refl
not_mixed (refused.OwnAddress place) less = refl
not_mixed (refused.MixedShape first second) less = absurd (omega arith)
not_mixed (refused.Twice first second) less = refl

like_mixed : (e : Edition) (s : Softwire) (bs : List Binding) (first second : ℕ) (r : Refused) → AtBoth bs first second (IsMixed e) → Applies e s bs r →
    (turn r).stage ≡ 4 → (turn r).place ≡ second → (turn r).step ≡ first → is_mixed r ≡ true
like_mixed e s bs first second refused.Mtu mixed a stage place step = absurd (omega arith)
like_mixed e s bs first second refused.Hop mixed a stage place step = absurd (omega arith)
like_mixed e s bs first second (refused.TooMany count) mixed a stage place step = absurd (omega arith)
like_mixed e s bs first second (refused.Shape at) mixed a stage place step = absurd (omega arith)
like_mixed e s bs first second (refused.Psid at) mixed a stage place step = absurd (omega arith)
like_mixed e s bs first second (refused.OwnAddress at) mixed a stage place step = absurd (omega arith)
like_mixed e s bs first second (refused.MixedShape x y) mixed a stage place step = refl
like_mixed e s bs first second (refused.Twice x y) mixed a stage place step = absurd (at_both e bs first second x y (sym step) (sym place) mixed a)

like_twice : (e : Edition) (s : Softwire) (bs : List Binding) (first second : ℕ) (r : Refused) → AtBoth bs first second (IsTwice e) → Applies e s bs r →
    (turn r).stage ≡ 4 → (turn r).place ≡ second → (turn r).step ≡ first → is_mixed r ≡ false
like_twice e s bs first second refused.Mtu twice a stage place step = refl
like_twice e s bs first second refused.Hop twice a stage place step = refl
like_twice e s bs first second (refused.TooMany count) twice a stage place step = refl
like_twice e s bs first second (refused.Shape at) twice a stage place step = refl
like_twice e s bs first second (refused.Psid at) twice a stage place step = refl
like_twice e s bs first second (refused.OwnAddress at) twice a stage place step = refl
like_twice e s bs first second (refused.MixedShape x y) twice a stage place step = absurd (at_both e bs x y first second step place a twice)
like_twice e s bs first second (refused.Twice x y) twice a stage place step = refl

mixed_alike : (e : Edition) (s : Softwire) (bs : List Binding) (r q : Refused) → Applies e s bs r → Applies e s bs q → IsSameTurn (turn q) (turn r) → is_mixed q ≡ is_mixed r
mixed_alike e s bs refused.Mtu q a b same = not_mixed q (omega (arith, same.stage_is))
mixed_alike e s bs refused.Hop q a b same = not_mixed q (omega (arith, same.stage_is))
mixed_alike e s bs (refused.TooMany count) q a b same = not_mixed q (omega (arith, same.stage_is))
mixed_alike e s bs (refused.Shape place) q a b same = not_mixed q (omega (arith, same.stage_is))
mixed_alike e s bs (refused.Psid place) q a b same = not_mixed q (omega (arith, same.stage_is))
mixed_alike e s bs (refused.OwnAddress place) q a b same = not_mixed q (omega (arith, same.stage_is))
mixed_alike e s bs (refused.MixedShape first second) q a b same = like_mixed e s bs first second q a b same.stage_is same.place_is same.step_is
mixed_alike e s bs (refused.Twice first second) q a b same = like_twice e s bs first second q a b same.stage_is same.place_is same.step_is

same_turn : (e : Edition) (s : Softwire) (bs : List Binding) (r q : Refused) → Applies e s bs r → Applies e s bs q → IsSameTurn (turn q) (turn r) → q ≡ r
same_turn e s bs r q a b same =
    let mixed : is_mixed q ≡ is_mixed r = mixed_alike e s bs r q a b same in
    sym (remade e s bs q b)
    ∙ (ap (λ n. made n (turn q).place (turn q).step (length bs) (is_mixed q)) same.stage_is
    ∙ (ap (λ n. made (turn r).stage n (turn q).step (length bs) (is_mixed q)) same.place_is
    ∙ (ap (λ n. made (turn r).stage (turn r).place n (length bs) (is_mixed q)) same.step_is
    ∙ (ap (λ t. made (turn r).stage (turn r).place (turn r).step (length bs) t) mixed
    ∙ remade e s bs r a))))

neither : (a b : ℕ) → (a < b → ⊥) → (b < a → ⊥) → a ≡ b
neither a b x y = elim (cases_lt a b) [
  | inl less ↦ absurd (x less)
  | inr more ↦ elim (cases_lt b a) [ inl less ↦ absurd (y less) | inr enough ↦ omega arith ]
]

turns_alike : (t u : Turn) → (IsEarlier t u → ⊥) → (IsEarlier u t → ⊥) → IsSameTurn t u
turns_alike t u x y =
    let stage : t.stage ≡ u.stage = neither t.stage u.stage (λ less. x (inl less)) (λ less. y (inl less)) in
    let place : t.place ≡ u.place = neither t.place u.place (λ less. x (inr (stage, inl less))) (λ less. y (inr (sym stage, inl less))) in
    record {
      stage_is = stage;
      place_is = place;
      step_is = neither t.step u.step (λ less. x (inr (stage, inr (place, less)))) (λ less. y (inr (sym stage, inr (sym place, less))));
    }

pub one_first : (e : Edition) (s : Softwire) (bs : List Binding) (r q : Refused) → IsFirstRefusal e s bs r → IsFirstRefusal e s bs q → r ≡ q
one_first e s bs r q x y =
    same_turn e s bs q r y.applies x.applies (turns_alike (turn r) (turn q) (λ earlier. y.first r x.applies earlier) (λ earlier. x.first q y.applies earlier))
