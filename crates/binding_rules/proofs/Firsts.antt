-- The first true refusal, put together from the first of each stage.
use Rattle.std.proofs.Common.{◌≡◌, ℕ, ◌+◌, ◌^◌, ◌<◌, ◌≤◌, ◌⊎◌, inl, inr, false, Option, Some, None, List, length, subst, refl, sym, arith}
use Rattle.std.specs.Prelude.{slice_get, is_some, IfNone, IfSome}
use Rattle.std.proofs.lemmas.Bool.{cases_lt, true≢false}
use Rattle.std.proofs.lemmas.Option.{slice_get_within}
use Rattle.port_set.specs.Shapes.{IsShape, IsNoShape}
use Rattle.binding_rules.specs.declared.binding.Binding.{Binding}
use Rattle.binding_rules.specs.declared.conflicts.Pair.{Pair}
use Rattle.binding_rules.specs.declared.settings.Edition.{Edition}
use Rattle.binding_rules.specs.declared.settings.Softwire.{Softwire}
use Rattle.binding_rules.specs.declared.refused.Refused.{Refused}
use Rattle.binding_rules.specs.declared.refused.Refused.TheVariants as refused
use Rattle.binding_rules.specs.Conflicts.{Conflict}
use Rattle.binding_rules.specs.Refusals.{AtBoth, Applies, turn, IsEarlier, IsFirstRefusal, IsMixed, IsTwice, Turn}
use Rattle.binding_rules.specs.Scans.{IsFine, IsSound, AreSound, IsPlaceRefusal, IsFirstPair, IsConflictRefusal, IsNotAfter}
use Rattle.binding_rules.specs.Tables.{IsValid, binding_table}
use Rattle.binding_rules.proofs.Keys.{both_map}
use Rattle.binding_rules.proofs.Laws.{shape_not_both}
use Rattle.binding_rules.proofs.Links.{same_binding}

pub sound_more : (own : ℕ) (bs : List Binding) (i : ℕ) (x : Binding) (o : Option Refused) → slice_get bs i ≡ Some x → is_some o ≡ false
    → IfNone o (IsSound own x) → AreSound own bs i → AreSound own bs (i + 1)
sound_more own bs i x (Some r) e t sound before = absurd (true≢false t)
sound_more own bs i x None e t sound before = λ n y l g. elim (cases_lt n i) [
  | inl less ↦ before n y less g
  | inr more ↦ (let same : n ≡ i = omega arith in
      subst (IsSound own) (same_binding bs i x y e (subst (λ (m : ℕ). slice_get bs m ≡ Some y) same g)) sound)
]

-- what holds of the optional refusal that there is
pub some_map : (o : Option Refused) (P Q : Refused → Type 0) → ((r : Refused) → P r → Q r) → IfSome o P → IfSome o Q
some_map None P Q turns h = tt
some_map (Some r) P Q turns h = turns r h

-- a sound binding is not refused on its own
not_shape : (own : ℕ) (x : Binding) → IsSound own x → IsNoShape x.offset x.length → ⊥
not_shape own x sound h = shape_not_both x.offset x.length sound.shape h

not_psid : (own : ℕ) (x : Binding) → IsSound own x → 2 ^ x.length ≤ x.psid → ⊥
not_psid own x sound h = omega (arith, sound.psid, h)

-- a conflict, whatever its refusal
mixed_conflict : (e : Edition) (bs : List Binding) (f s : ℕ) → AtBoth bs f s (IsMixed e) → AtBoth bs f s (Conflict e)
mixed_conflict e bs f s = both_map bs f s (IsMixed e) (Conflict e) (λ x y g h r. record { address = r.address; cause = inl r.mixed })

twice_conflict : (e : Edition) (bs : List Binding) (f s : ℕ) → AtBoth bs f s (IsTwice e) → AtBoth bs f s (Conflict e)
twice_conflict e bs f s = both_map bs f s (IsTwice e) (Conflict e) (λ x y g h r. record { address = r.address; cause = inr r.common })

not_fine : (s : Softwire) → IsFine s → (s.mtu6 < 1280) ⊎ (s.mtu4 < 576) → ⊥
not_fine s fine (inl l) = omega (arith, l, fine.mtu6)
not_fine s fine (inr l) = omega (arith, l, fine.mtu4)

-- no turn is before another of an earlier stage
later_stage : (t u : Turn) → u.stage < t.stage → IsEarlier t u → ⊥
later_stage t u l (inl h) = omega arith
later_stage t u l (inr h) = omega (arith, h.0, l)

same_stage : (t u : Turn) → t.stage ≡ u.stage → IsEarlier t u → (t.place < u.place) ⊎ ((t.place ≡ u.place) × (t.step < u.step))
same_stage t u e (inl h) = absurd (omega arith)
same_stage t u e (inr h) = h.1

-- a pair that is not after another is not before it
pair_not_before : (f s g t : ℕ) → IsNotAfter f s g t → (t < s) ⊎ ((t ≡ s) × (g < f)) → ⊥
pair_not_before f s g t (inl l) (inl m) = omega arith
pair_not_before f s g t (inl l) (inr m) = omega (arith, m.0)
pair_not_before f s g t (inr l) (inl m) = omega (arith, l.0)
pair_not_before f s g t (inr l) (inr m) = omega (arith, l.1, m.1)

module _ (e : Edition) (s : Softwire) (bs : List Binding) (fine : IsFine s) where
  module _ (few : length bs ≤ 65536) where
    -- which refusal can be before a step at a place up to which all bindings are sound: one at this place, by an earlier step
    abbrev pub IsBefore : ℕ → ℕ → Refused → Type 0
    IsBefore at k (refused.Shape p) = (p ≡ at) × (0 < k)
    IsBefore at k (refused.Psid p) = (p ≡ at) × (1 < k)
    IsBefore at k (refused.OwnAddress p) = (p ≡ at) × (2 < k)
    IsBefore at k _ = ⊥

    before : (at k : ℕ) → AreSound s.own.0 bs at → (q : Refused) → Applies e s bs q
        → IsEarlier (turn q) (record { stage = 3; place = at; step = k }) → IsBefore at k q
    before at k sound refused.Mtu h l = not_fine s fine h
    before at k sound refused.Hop h l = absurd (omega (arith, h, fine.hop_limit))
    before at k sound (refused.TooMany n) h l = absurd (omega (arith, h.1, few))
    before at k sound (refused.Shape p) h l = elim (same_stage _ (record { stage = 3; place = at; step = k }) refl l) [
      | inl m ↦ absurd (not_shape s.own.0 h.0 (sound p h.0 m h.1) h.2)
      | inr m ↦ m
    ]
    before at k sound (refused.Psid p) h l = elim (same_stage _ (record { stage = 3; place = at; step = k }) refl l) [
      | inl m ↦ absurd (not_psid s.own.0 h.0 (sound p h.0 m h.1) h.2)
      | inr m ↦ m
    ]
    before at k sound (refused.OwnAddress p) h l = elim (same_stage _ (record { stage = 3; place = at; step = k }) refl l) [
      | inl m ↦ absurd ((sound p h.0 m h.1).not_own h.2)
      | inr m ↦ m
    ]
    before at k sound (refused.MixedShape f g) h l = later_stage _ (record { stage = 3; place = at; step = k }) (omega arith) l
    before at k sound (refused.Twice f g) h l = later_stage _ (record { stage = 3; place = at; step = k }) (omega arith) l

    none_0 : (at : ℕ) (q : Refused) → Applies e s bs q → IsBefore at 0 q → ⊥
    none_0 at (refused.Shape p) h b = omega (arith, b.1)
    none_0 at (refused.Psid p) h b = omega (arith, b.1)
    none_0 at (refused.OwnAddress p) h b = omega (arith, b.1)
    none_0 at refused.Mtu h b = b
    none_0 at refused.Hop h b = b
    none_0 at (refused.TooMany n) h b = b
    none_0 at (refused.MixedShape f g) h b = b
    none_0 at (refused.Twice f g) h b = b

    none_1 : (at : ℕ) (x : Binding) → slice_get bs at ≡ Some x → IsShape x.offset x.length → (q : Refused) → Applies e s bs q → IsBefore at 1 q → ⊥
    none_1 at x there shape (refused.Shape p) h b =
        let same = same_binding bs at h.0 x (subst (λ (n : ℕ). slice_get bs n ≡ Some h.0) b.0 h.1) there in
        shape_not_both x.offset x.length shape (subst (λ (z : Binding). IsNoShape z.offset z.length) same h.2)
    none_1 at x there shape (refused.Psid p) h b = omega (arith, b.1)
    none_1 at x there shape (refused.OwnAddress p) h b = omega (arith, b.1)
    none_1 at x there shape refused.Mtu h b = b
    none_1 at x there shape refused.Hop h b = b
    none_1 at x there shape (refused.TooMany n) h b = b
    none_1 at x there shape (refused.MixedShape f g) h b = b
    none_1 at x there shape (refused.Twice f g) h b = b

    none_2 : (at : ℕ) (x : Binding) → slice_get bs at ≡ Some x → IsShape x.offset x.length → x.psid < 2 ^ x.length → (q : Refused)
        → Applies e s bs q → IsBefore at 2 q → ⊥
    none_2 at x there shape psid (refused.Shape p) h b = none_1 at x there shape (refused.Shape p) h (b.0, omega arith)
    none_2 at x there shape psid (refused.Psid p) h b =
        let same = same_binding bs at h.0 x (subst (λ (n : ℕ). slice_get bs n ≡ Some h.0) b.0 h.1) there in
        let above : 2 ^ x.length ≤ x.psid = subst (λ (z : Binding). 2 ^ z.length ≤ z.psid) same h.2 in
        omega (arith, above, psid)
    none_2 at x there shape psid (refused.OwnAddress p) h b = omega (arith, b.1)
    none_2 at x there shape psid refused.Mtu h b = b
    none_2 at x there shape psid refused.Hop h b = b
    none_2 at x there shape psid (refused.TooMany n) h b = b
    none_2 at x there shape psid (refused.MixedShape f g) h b = b
    none_2 at x there shape psid (refused.Twice f g) h b = b

    pub first_place : (r : Refused) → IsPlaceRefusal s.own.0 bs r → IsFirstRefusal e s bs r
    first_place (refused.Shape at) r =
        let h = r.here in
        let place = h.2.0 in
        let there = subst (λ (n : ℕ). slice_get bs n ≡ Some h.0) (sym place) h.1 in
        let sound = subst (AreSound s.own.0 bs) (sym place) r.before in
        record { applies = (h.0, there, h.2.1); first = λ q a l. none_0 at q a (before at 0 sound q a l) }
    first_place (refused.Psid at) r =
        let h = r.here in
        let place = h.2.0 in
        let there = subst (λ (n : ℕ). slice_get bs n ≡ Some h.0) (sym place) h.1 in
        let sound = subst (AreSound s.own.0 bs) (sym place) r.before in
        record { applies = (h.0, there, h.2.1.1); first = λ q a l. none_1 at h.0 there h.2.1.0 q a (before at 1 sound q a l) }
    first_place (refused.OwnAddress at) r =
        let h = r.here in
        let place = h.2.0 in
        let there = subst (λ (n : ℕ). slice_get bs n ≡ Some h.0) (sym place) h.1 in
        let sound = subst (AreSound s.own.0 bs) (sym place) r.before in
        record { applies = (h.0, there, h.2.1.1.1); first = λ q a l. none_2 at h.0 there h.2.1.0 h.2.1.1.0 q a (before at 2 sound q a l) }
    first_place refused.Mtu r = absurd r.here.2
    first_place refused.Hop r = absurd r.here.2
    first_place (refused.TooMany n) r = absurd r.here.2
    first_place (refused.MixedShape f g) r = absurd r.here.2
    first_place (refused.Twice f g) r = absurd r.here.2

    module _ (sound : AreSound s.own.0 bs (length bs)) where
      sound_at : (p : ℕ) (x : Binding) → slice_get bs p ≡ Some x → IsSound s.own.0 x
      sound_at p x there = sound p x (slice_get_within bs p x there) there

      -- what is true before the conflicts is none of the refusals; a refusal of a pair is a conflict
      IsOfPair : Refused → Type 0
      IsOfPair q = (f : ℕ) × (g : ℕ) × (turn q ≡ record { stage = 4; place = g; step = f }) × AtBoth bs f g (Conflict e)

      of_pair : (q : Refused) → Applies e s bs q → IsOfPair q
      unfolding IsOfPair
      of_pair refused.Mtu h = absurd (not_fine s fine h)
      of_pair refused.Hop h = absurd (omega (arith, h, fine.hop_limit))
      of_pair (refused.TooMany n) h = absurd (omega (arith, h.1, few))
      of_pair (refused.Shape p) h = absurd (not_shape s.own.0 h.0 (sound_at p h.0 h.1) h.2)
      of_pair (refused.Psid p) h = absurd (not_psid s.own.0 h.0 (sound_at p h.0 h.1) h.2)
      of_pair (refused.OwnAddress p) h = absurd ((sound_at p h.0 h.1).not_own h.2)
      of_pair (refused.MixedShape f g) h = (f, g, refl, mixed_conflict e bs f g h)
      of_pair (refused.Twice f g) h = (f, g, refl, twice_conflict e bs f g h)

      pub none_applies : IsFirstPair bs (Conflict e) (λ n. Unit {0}) None → IsValid (binding_table e s bs)
      unfolding IsOfPair
      none_applies none q h = let p = of_pair q h in none p.0 p.1 (tt, p.3)

      pub first_pair : (pair : Pair) (r : Refused) → IsFirstPair bs (Conflict e) (λ n. Unit {0}) (Some pair) → IsConflictRefusal e s bs pair r
          → IsFirstRefusal e s bs r
      unfolding IsOfPair
      first_pair pair r least is = record {
        applies = is.applies;
        first = λ q h l.
            let p = of_pair q h in
            let there = least.1 p.0 p.1 (tt, p.3) in
            let u = subst (λ t. IsEarlier t (turn r)) p.2 l in
            let v = subst (λ t. IsEarlier (record { stage = 4; place = p.1; step = p.0 }) t) is.places u in
            pair_not_before pair.first pair.second p.0 p.1 there
            (same_stage (record { stage = 4; place = p.1; step = p.0 }) (record { stage = 4; place = pair.second; step = pair.first }) refl v);
      }
