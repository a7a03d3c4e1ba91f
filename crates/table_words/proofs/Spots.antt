-- The entry of an address that a search found, what it left, and what follows for the lookup.
use Rattle.std.proofs.Common.{◌≡◌, ℕ, ◌+◌, ◌-◌, ◌*◌, ◌/◌, ◌^◌, ◌<◌, ◌≤◌, true, false, List, Some, None, sym, subst, ap, ◌∙◌, inl, inr, arith}
use Rattle.std.specs.Prelude.{Option, IfSome, IfNone}
use Rattle.std.proofs.lemmas.Bool.{cases_eq}
use Rattle.aftr_base.specs.declared.numbers.V4.{V4}
use Rattle.aftr_base.specs.declared.numbers.V6.{V6}
use Rattle.binding_rules.specs.Bindings.{bound}
use Rattle.binding_rules.specs.Tables.{BindingTable, IsLawful}
use Rattle.binding_rules.specs.declared.binding.Want.{Want}
use Rattle.table_words.specs.Answers.{first_b4}
use Rattle.table_words.specs.Bounds.{group_digits, found_bound, most_shapes}
use Rattle.table_words.specs.Layout.{IsCompiled}
use Rattle.table_words.specs.declared.probes.Spot.{Spot}
use Rattle.table_words.specs.Spans.{first_at, mark_of, AreEntriesOf, IsHere, IsSpot, HasNoSpot, IsIndexGroup, AreAlike, AreMarked, IsTunnelOfOwner, HasNoOwner, TellsAddress}
use Rattle.table_words.specs.Spent.{IsBounded}
use Rattle.table_words.specs.Tried.{IsNarrowed, IsOwnerBounded}
use Rattle.table_words.proofs.Halving.{narrowed}
use Rattle.table_words.proofs.Trying.{owner_is, owner_wider, none_wider, alike_found, mixed_found, mixed_look, none_found, found_below, if_some, if_mapped}
use Rattle.table_words.proofs.TwoShapes.{are_alike, are_marked, some_mixed, not_one_shape}

pub spot_left : (o : Option Spot) (words : List ℕ) (from to least most s0 s1 s2 : ℕ) → IfSome o (λ s. IsSpot words from to least most s.low s.high s.at s.first)
    → IfSome o (λ s. 2 ^ (s2 - (s1 + 2)) * (s.high - s.low) ≤ to - from) → s1 ≤ s0 + 2 → s0 ≤ s1 → s1 ≤ s2
    → IfSome o (λ s. (d : ℕ) → to - from < 2 ^ d → IsNarrowed d (s.high - s.low) (s2 - s0))
spot_left None words from to least most s0 s1 s2 spot halved few before later = tt
spot_left (Some s) words from to least most s0 s1 s2 spot halved few before later = λ d small.
    let n = narrowed (s2 - (s1 + 2)) (s.high - s.low) (to - from) d (omega (arith, spot.low_on, spot.before_high)) halved small in
    record {
      left = d - (s2 - (s1 + 2));
      narrow = n.1;
      fewer = omega arith;
      few = omega (arith, n.0, few, before, later);
    }

-- where no entry has the address
module _ (words : List ℕ) (a from to : ℕ) (none : HasNoSpot words from to (a * 4294967296) (a * 4294967296 + 4294967295)) where
  pub none_told : TellsAddress words from to a false
  none_told e l m same = omega (arith, none e l m (omega (arith, same)), same)

  pub none_owns : (w : Want) → HasNoOwner words from to a w
  none_owns w e x l m f same = absurd (none_told e l m (sym f.like.v4 ∙ same))

pub none_bounded : (list : List ℕ) (a from to s0 s1 : ℕ) → ((t : BindingTable) → IsCompiled t list → IsIndexGroup t list a from to)
    → ((d : ℕ) → to - from < 2 ^ d → s1 ≤ s0 + d + 5) → IsBounded list None s0 s1
none_bounded list a from to s0 s1 group cost = record {
  bound = λ t h. let most = here t h in omega (arith, most, found_below t);
  found = tt;
  one_shape = λ t h one. here t h;
}
  where
    here : (t : BindingTable) → IsCompiled t list → s1 ≤ s0 + found_bound t.bindings
    here t h = none_found t s0 s1 (cost (group_digits t.bindings) (group t h).size)

-- where an entry has it
module _ (words : List ℕ) (v4 : V4) (from to low high at first : ℕ)
    (spot : IsSpot words from to (v4.0 * 4294967296) (v4.0 * 4294967296 + 4294967295) low high at first) where
  pub spot_address : first / 4294967296 ≡ v4.0
  spot_address = omega (arith, spot.at_least, spot.at_most)

  pub spot_here : IsHere words low high at first
  spot_here = record { from_on = spot.low_on; up_to = spot.before_high; word = spot.here }

  pub spot_told : TellsAddress words from to v4.0 true
  spot_told = (
    at,
    omega (arith, spot.from_on, spot.low_on),
    omega (arith, spot.before_high, spot.up_to),
    ap (λ (n : ℕ). n / 4294967296)
        (sym spot.here) ∙ spot_address,
  )

  from_at : from ≤ at
  from_at = omega (arith, spot.from_on, spot.low_on)

  at_to : at < to
  at_to = omega (arith, spot.before_high, spot.up_to)

  mark_here : (n : ℕ) → mark_of first ≡ n → mark_of (first_at words at) ≡ n
  mark_here n is = ap (λ (k : ℕ). mark_of k) (sym spot.here) ∙ is

  module _ (t : BindingTable) (group : IsIndexGroup t words v4.0 from to) where
    pub near_alike : IsLawful t → mark_of first ≡ 0 → AreAlike words low high (first / 4294967296)
    near_alike h zero = subst (λ (n : ℕ). AreAlike words low high (n / 4294967296)) (sym spot.here)
        (λ d e k n i j. are_alike t words v4.0 from to group at from_at at_to h (mark_here 0 zero) d e
        (omega (arith, k, spot.from_on)) (omega (arith, n, spot.up_to)) (omega (arith, i, spot.from_on)) (omega (arith, j, spot.up_to)))

    pub near_marked : mark_of first ≡ 1 → AreMarked words low high (first / 4294967296)
    near_marked one = subst (λ (n : ℕ). AreMarked words low high (n / 4294967296)) (sym spot.here)
        (λ e k n. are_marked t words v4.0 from to group at from_at at_to (mark_here 1 one) e (omega (arith, k, spot.from_on)) (omega (arith, n, spot.up_to)))

    pub near_owner : IsLawful t → (w : Want) (o : Option V6) → IfSome o (λ b4. IsTunnelOfOwner words low high (first / 4294967296) w b4.0)
        → IfNone o (HasNoOwner words low high (first / 4294967296) w) → o ≡ first_b4 (bound t.bindings v4 w)
    near_owner h w o owner none = owner_is t words h v4 w from to group o
        (owner_wider words from to low high v4.0 w spot.from_on spot.up_to o
        (subst (λ (a : ℕ). IfSome o (λ b4. IsTunnelOfOwner words low high a w b4.0)) spot_address owner))
        (none_wider words from to low high v4.0 w spot.from_on spot.up_to spot.below spot.above o
        (subst (λ (a : ℕ). IfNone o (HasNoOwner words low high a w)) spot_address none))

    near_entries : AreEntriesOf t.bindings words low high
    near_entries e l m = group.entries e (omega (arith, l, spot.from_on)) (omega (arith, m, spot.up_to))

  pub near_bounded : ((t : BindingTable) → IsCompiled t words → IsIndexGroup t words v4.0 from to) → (o : Option V6) (s s0 s1 s2 : ℕ) → s0 ≡ s + 2 → s0 ≤ s1
      → ((d : ℕ) → to - from < 2 ^ d → IsNarrowed d (high - low) (s1 - s0)) → IsOwnerBounded words low high (mark_of first) o s1 s2 → IsBounded words o s s2
  near_bounded group o s s0 s1 s2 start later narrow cost = elim (cases_eq (mark_of first) 0) [
    | inl zero ↦ record {
      bound = λ t h. let most = alike zero t h in omega (arith, most, found_below t, start);
      found = if_some o _ (λ t h. let most = alike zero t h in omega (arith, most, start));
      one_shape = λ t h one. let most = alike zero t h in omega (arith, most, start);
    }
    | inr other ↦ (let one : mark_of first ≡ 1 = omega (arith, other) in record {
      bound = λ t h.
          let left = narrow (group_digits t.bindings) (group t h).size in
          let most = mixed_look t (to - from) (high - low) s0 s1 s2 some (group t h).size left later (two one t h)
          ((cost.mixed one).bound t.bindings left.left (near_entries t (group t h)) left.narrow) in
          omega (arith, most, start);
      found = if_mapped o _ _ (λ m t h.
          let left = narrow (group_digits t.bindings) (group t h).size in
          let most = mixed_found t (to - from) (high - low) s0 s1 s2 some (group t h).size left later (two one t h)
          (m t.bindings left.left (near_entries t (group t h)) left.narrow) in
          omega (arith, most, start)) (cost.mixed one).found;
      one_shape = λ t h none. not_one_shape t words v4.0 from to (group t h) at from_at at_to (mark_here 1 one) none _ _;
    })
  ]
    where
      some : 0 < to - from
      some = omega (arith, from_at, at_to)

      two : mark_of first ≡ 1 → (t : BindingTable) (h : IsCompiled t words) → 2 ≤ most_shapes t.bindings
      two one t h = some_mixed t words v4.0 from to (group t h) at from_at at_to (mark_here 1 one)

      alike : mark_of first ≡ 0 → (t : BindingTable) → IsCompiled t words → s2 + 2 ≤ s0 + found_bound t.bindings
      alike zero t h =
          let left = narrow (group_digits t.bindings) (group t h).size in
          alike_found t (to - from) (high - low) s0 s1 s2 some (group t h).size left later (cost.alike zero left.left left.narrow)
