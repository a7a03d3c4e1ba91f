-- Conflicts in terms of the keys: ports, or identifiers where the shapes are one.
use Rattle.std.proofs.Common.{◌≡◌, ℕ, zero, suc, ◌-◌, ◌*◌, ◌^◌, ◌<◌, ◌≤◌, ◌⊎◌, min, inl, inr, true, false, Option, Some, None, List, [], ◌∷◌, Contains, length, subst, refl, sym, ap, ◌∙◌, arith}
use Rattle.std.specs.Prelude.{slice_get, is_some}
use Rattle.std.proofs.Math.Nat.{le-mul_of_pos_right, pow-le-pow_right}
use Rattle.std.proofs.Math.Pow.{pow-lt}
use Rattle.std.proofs.lemmas.Bool.{cases_eq, cases_lt, eq-eqb, eqb-true, true≢false}
use Rattle.std.proofs.lemmas.Nat.{pow_pos}
use Rattle.port_set.specs.Shapes.{IsShape}
use Rattle.port_set.specs.PortSets.{InSet, owned_ports}
use Rattle.port_set.specs.Places.{owned_count}
use Rattle.port_set.proofs.Laws.{in_set_true, in_set_from, owned_ports_members}
use Rattle.port_set.proofs.Laws.{owned_ports_are}
use Rattle.port_set.proofs.Laws.{length-ports_between}
use Rattle.binding_rules.specs.declared.binding.Binding.{Binding}
use Rattle.binding_rules.specs.declared.conflicts.Pair.{Pair}
use Rattle.binding_rules.specs.declared.settings.Edition.TheVariants as edition
use Rattle.binding_rules.specs.Conflicts.{HaveCommonPort, HaveOneShape, Conflict}
use Rattle.binding_rules.specs.Refusals.{AtBoth}
use Rattle.binding_rules.specs.Scans.{IsLeast, IsFirstPair, ArePair, IsLeastUnlike, IsAtAddress, HaveCommonKey, AreShared, AreUnlike, IsWell, AreWell, paired, earlier_of}
use Rattle.binding_rules.proofs.Leasts.{pair_iff, pair_or}
use Rattle.binding_rules.proofs.Links.{at_address_of, same_binding}

pub shape_cases : (x y : Binding) → HaveOneShape x y ⊎ (HaveOneShape x y → ⊥)
shape_cases x y =
    elim (cases_eq x.offset y.offset) [
      | inl o ↦ elim (cases_eq x.length y.length) [ inl l ↦ inl (o, l) | inr n ↦ inr (λ h. n h.1) ]
      | inr n ↦ inr (λ h. n h.0)
    ]

first_of : (xs : List ℕ) → 0 < length xs → (p : ℕ) × Contains xs p
first_of [] l = absurd (omega arith)
first_of (p ∷ xs) l = (p, (0, omega arith, refl))

-- each identifier owns a port
owns_one : (a k s : ℕ) → IsShape a k → s < 2 ^ k → (p : ℕ) × InSet a k s p
owns_one a k s shape below =
    let blocks : 0 < 2 ^ a - min a 1 = blocks_left a in
    let more : 2 ^ a - min a 1 ≤ (2 ^ a - min a 1) * 2 ^ (16 - a - k) = le-mul_of_pos_right (2 ^ a - min a 1) (pow_pos (16 - a - k)) in
    let count : length (owned_ports a k s) ≡ owned_count a k - 0 =
    ap length (owned_ports_are a k s shape below) ∙ length-ports_between a k s 0 (owned_count a k) in
    let some = first_of (owned_ports a k s) (omega (arith, count, more, blocks)) in
    (some.0, (owned_ports_members a k s some.0).0 some.1)
  where
    blocks_left : (n : ℕ) → 0 < 2 ^ n - min n 1
    blocks_left zero = omega arith
    blocks_left (suc n) =
        let more : 2 ^ 0 < 2 ^ suc n = pow-lt {i = 0} {j = suc n} (omega arith) in
        omega (arith, more)

-- bindings of one shape have a common port exactly where their identifiers are equal
pub common_is_equal : (x y : Binding) → HaveOneShape x y → HaveCommonPort x y → x.psid ≡ y.psid
common_is_equal x y same common =
    let h = subst (λ (n : ℕ). InSet n y.length y.psid common.0) (sym same.0) common.2 in
    let g = subst (λ (n : ℕ). InSet x.offset n y.psid common.0) (sym same.1) h in
    sym common.1.identifier ∙ g.identifier

pub equal_is_common : (x y : Binding) → IsWell x → HaveOneShape x y → x.psid ≡ y.psid → HaveCommonPort x y
equal_is_common x y well same e =
    let one = owns_one x.offset x.length x.psid well.shape well.psid in
    let h = subst (λ (n : ℕ). InSet n x.length x.psid one.0) same.0 one.1 in
    let g = subst (λ (n : ℕ). InSet y.offset n x.psid one.0) same.1 h in
    (one.0, one.1, subst (λ (n : ℕ). InSet y.offset y.length n one.0) e g)

pub key_is_identifier : (x y : Binding) → HaveCommonKey false x y → x.psid ≡ y.psid
key_is_identifier x y common = eqb-true x.psid common.0 common.2 ∙ sym (eqb-true y.psid common.0 common.3)

pub identifier_is_key : (x y : Binding) → x.psid < 65536 → x.psid ≡ y.psid → HaveCommonKey false x y
identifier_is_key x y l e = (x.psid, l, eq-eqb x.psid x.psid refl, eq-eqb y.psid x.psid (sym e))

pub port_is_key : (x y : Binding) → HaveCommonPort x y → HaveCommonKey true x y
port_is_key x y common = (common.0, common.1.is_port, in_set_true _ _ _ _ common.1, in_set_true _ _ _ _ common.2)

pub key_is_port : (x y : Binding) → HaveCommonKey true x y → HaveCommonPort x y
key_is_port x y common = (common.0, in_set_from _ _ _ _ common.1 common.2, in_set_from _ _ _ _ common.1 common.3)

-- an identifier has at most 16 bits
pub psid_small : (x : Binding) → IsWell x → x.psid < 65536
psid_small x well =
    let most : 2 ^ x.length ≤ 2 ^ 16 = pow-le-pow_right {n = 2} (omega arith) {i = x.length} {j = 16} (omega (arith, well.shape.sum_fits)) in
    omega (arith, most, well.psid)

-- what holds of each two bindings holds of two at their places
pub both_map : (bs : List Binding) (f s : ℕ) (R S : Binding → Binding → Type 0)
    → ((x y : Binding) → slice_get bs f ≡ Some x → slice_get bs s ≡ Some y → R x y → S x y)
    → AtBoth bs f s R → AtBoth bs f s S
both_map bs f s R S turns both = record {
  ordered = both.ordered;
  there = (let h = both.there.2 in (both.there.0, both.there.1, (h.0, h.1, turns both.there.0 h.0 both.there.1 h.1 h.2)));
}

-- in edition Two, where the keys are ports
pub two_by_port : (bs : List Binding) (G : ℕ → Type 0) (o : Option Pair) → IsFirstPair bs (AreShared true) G o → IsFirstPair bs (Conflict edition.Two) G o
two_by_port bs G o =
    pair_iff (ArePair bs (AreShared true) G) (ArePair bs (Conflict edition.Two) G) o
    (λ f s h. (
      h.0,
      both_map bs f s (AreShared true) (Conflict edition.Two)
          (λ x y e g r. record { address = r.address; cause = inr (key_is_port x y r.common) }) h.1,
    ))
    (λ f s h. (
      h.0,
      both_map bs f s (Conflict edition.Two) (AreShared true)
          (λ x y e g r. record { address = r.address; common = elim r.cause [ inl mixed ↦ absurd mixed | inr common ↦ port_is_key x y common ] }) h.1,
    ))

all_alike : (bs : List Binding) (a : ℕ) (like : Binding) → IsLeastUnlike bs a like None → (n : ℕ) (y : Binding)
    → slice_get bs n ≡ Some y → y.v4.0 ≡ a → HaveOneShape like y
all_alike bs a like none n y e h =
    elim (shape_cases like y) [
      | inl same ↦ same
      | inr unlike ↦ absurd (none n (record { above = tt; there = (y, e, (h, unlike)) }))
    ]

alike_both : (z x y : Binding) → HaveOneShape z x → HaveOneShape z y → HaveOneShape x y
alike_both z x y h g = (sym h.0 ∙ g.0, sym h.1 ∙ g.1)

-- in edition Two, where all bindings of the address have one shape
pub two_by_identifier : (bs : List Binding) (a : ℕ) (like : Binding) (o : Option Pair) → AreWell bs → IsLeastUnlike bs a like None
    → IsFirstPair bs (AreShared false) (IsAtAddress bs a) o → IsFirstPair bs (Conflict edition.Two) (IsAtAddress bs a) o
two_by_identifier bs a like o well none =
    pair_iff (ArePair bs (AreShared false) (IsAtAddress bs a)) (ArePair bs (Conflict edition.Two) (IsAtAddress bs a)) o
    (λ f s h. (
      h.0,
      both_map bs f s (AreShared false) (Conflict edition.Two)
          (λ x y e g r. record {
            address = r.address;
            cause = inr (equal_is_common x y (well f x e) (alike f s h.0 x y e g r.address) (key_is_identifier x y r.common));
          }) h.1,
    ))
    (λ f s h. (
      h.0,
      both_map bs f s (Conflict edition.Two) (AreShared false)
          (λ x y e g r. record {
            address = r.address;
            common = elim r.cause [
              | inl mixed ↦ absurd mixed
              | inr common ↦ identifier_is_key x y (psid_small x (well f x e)) (common_is_equal x y (alike f s h.0 x y e g r.address) common)
            ];
          }) h.1,
    ))
  where
    alike : (f s : ℕ) → IsAtAddress bs a f → (x y : Binding) → slice_get bs f ≡ Some x → slice_get bs s ≡ Some y → x.v4.0 ≡ y.v4.0 → HaveOneShape x y
    alike f s h x y e g same =
        let at_f = at_address_of bs a f x e h in
        alike_both like x y (all_alike bs a like none f x e at_f) (all_alike bs a like none s y g (sym same ∙ at_f))

-- the first two of unlike shapes are the first place of the address and the first whose shape is another
pub unlike_first : (bs : List Binding) (a head : ℕ) (z : Binding) (unlike : Option ℕ) → IsLeast (IsAtAddress bs a) (Some head)
    → slice_get bs head ≡ Some z → IsLeastUnlike bs a z unlike → IsFirstPair bs AreUnlike (IsAtAddress bs a) (paired head unlike)
unlike_first bs a head z None first there least = λ f s h.
    let g = h.1.there.2 in
    let x = h.1.there.0 in
    let at_f = at_address_of bs a f x h.1.there.1 h.0 in
    g.2.unlike (alike_both z x g.0 (all_alike bs a z least f x h.1.there.1 at_f) (all_alike bs a z least s g.0 g.1 (sym g.2.address ∙ at_f)))
unlike_first bs a head z (Some u) first there least =
    let g = least.0.there in
    let apart : head ≡ u → ⊥ =
    (λ e. g.2.1 (subst (HaveOneShape z) (same_binding bs u z g.0 (subst (λ (n : ℕ). slice_get bs n ≡ Some z) e there) g.1) (refl, refl))) in
    let at_head = at_address_of bs a head z there first.0 in
    let behind : head ≤ u = first.1 u (g.0, g.1, g.2.0) in (
      (first.0, record { ordered = omega arith; there = (z, there, (g.0, g.1, record { address = at_head ∙ sym g.2.0; unlike = g.2.1 })) }),
      λ f s h.
          let x = h.1.there.0 in
          let k = h.1.there.2 in
          let at_f = at_address_of bs a f x h.1.there.1 h.0 in
          let at_s = sym k.2.address ∙ at_f in
          let not_before : head ≤ f = first.1 f h.0 in
          elim (shape_cases z k.0) [
            | inr un ↦ (let le : u ≤ s = least.1 s (record { above = tt; there = (k.0, k.1, (at_s, un)) }) in
                elim (cases_lt u s) [ inl l ↦ inl l | inr m ↦ inr (omega arith, not_before) ])
            | inl same ↦ (let un : HaveOneShape z x → ⊥ = (λ e. k.2.unlike (alike_both z x k.0 e same)) in
                let le : u ≤ f = least.1 f (record { above = tt; there = (x, h.1.there.1, (at_f, un)) }) in
                inl (omega (arith, h.1.ordered)))
          ],
    )

-- in edition One a conflict is two unlike shapes or an equal identifier
pub one_by_identifier : (bs : List Binding) (a : ℕ) (u o : Option Pair) → AreWell bs → IsFirstPair bs AreUnlike (IsAtAddress bs a) u
    → IsFirstPair bs (AreShared false) (IsAtAddress bs a) o → IsFirstPair bs (Conflict edition.One) (IsAtAddress bs a) (earlier_of u o)
one_by_identifier bs a u o well unlike shared =
    pair_iff (λ f s. ArePair bs AreUnlike (IsAtAddress bs a) f s ⊎ ArePair bs (AreShared false) (IsAtAddress bs a) f s)
    (ArePair bs (Conflict edition.One) (IsAtAddress bs a)) (earlier_of u o)
    (λ f s e. elim e [
      | inl h ↦ (h.0, both_map bs f s AreUnlike (Conflict edition.One) (λ x y e g r. record { address = r.address; cause = inl r.unlike }) h.1)
      | inr h ↦ (
        h.0,
        both_map bs f s (AreShared false) (Conflict edition.One) (λ x y e g r. record {
          address = r.address;
          cause = elim (shape_cases x y) [
            | inl same ↦ inr (equal_is_common x y (well f x e) same (key_is_identifier x y r.common))
            | inr un ↦ inl un
          ];
        }) h.1,
      )
    ])
    (λ f s h. split f s h.0 h.1)
    (pair_or (ArePair bs AreUnlike (IsAtAddress bs a)) (ArePair bs (AreShared false) (IsAtAddress bs a)) u o unlike shared)
  where
    split : (f s : ℕ) → IsAtAddress bs a f → AtBoth bs f s (Conflict edition.One)
        → ArePair bs AreUnlike (IsAtAddress bs a) f s ⊎ ArePair bs (AreShared false) (IsAtAddress bs a) f s
    split f s at_f both =
        let x = both.there.0 in
        let h = both.there.2 in
        elim (shape_cases x h.0) [
          | inr un ↦ inl (at_f, record { ordered = both.ordered; there = (x, both.there.1, (h.0, h.1, record { address = h.2.address; unlike = un })) })
          | inl same ↦ inr (
            at_f,
            record {
              ordered = both.ordered;
              there = (
                x,
                both.there.1,
                (
                  h.0,
                  h.1,
                  record {
                    address = h.2.address;
                    common = identifier_is_key x h.0 (psid_small x (well f x both.there.1)) (common_is_equal x h.0 same
                        (elim h.2.cause [ inl un ↦ absurd (un same) | inr common ↦ common ]));
                  },
                ),
              );
            },
          )
        ]

pub two_by_none : (bs : List Binding) (a : ℕ) (like : Binding) (unlike : Option ℕ) (o : Option Pair) → AreWell bs
    → is_some unlike ≡ false → IsLeastUnlike bs a like unlike
    → IsFirstPair bs (AreShared false) (IsAtAddress bs a) o → IsFirstPair bs (Conflict edition.Two) (IsAtAddress bs a) o
two_by_none bs a like None o well none least first = two_by_identifier bs a like o well least first
two_by_none bs a like (Some u) o well none least first = absurd (true≢false none)
