-- The steps by which an actor comes to hold a table, and gives it up.
use Rattle.std.proofs.Common.{◌≡◌, ℕ, suc, ◌+◌, ◌-◌, ◌%◌, ◌<◌, ◌≤◌, ◌≢◌, ◌⊎◌, Bool, cond, All, List, length, set, sum_by, slice_index, subst, sym, refl, ap, ◌∙◌, arith, inl, inr, eq-eqb, ne_eqb, length-set, get_or-set_same, get_or-set_other}
use mathlib.Core.Option.{some}
use lib.ListN.{get_elem?}
use Rattle.std.proofs.lemmas.Bool.{cases_eq}
use Rattle.swap_core.specs.Plans.{table, stale}
use Rattle.swap_core.specs.States.{CoreState, IsActor, count_of, area, spare, in_state, with_actor, looked, entered, confirmed, gone}
use Rattle.swap_core.specs.Sound.{Sound, HoldsRightly, IsDrawRight, HasClaimed, IsWriting, claims, times, draw_count, words_written, Begins}
use Rattle.swap_core.specs.declared.actors.Actor.{Actor}
use Rattle.swap_core.specs.declared.actors.ActorState.{ActorState}
use Rattle.swap_core.specs.declared.actors.ActorState.TheVariants.{Idle, Looked, Asks, Holds}
use Rattle.swap_core.specs.declared.actors.DeskState.{DeskState}
use Rattle.swap_core.specs.declared.actors.DeskState.TheVariants.{Resting, Ready, Writing}
use Rattle.aftr_base.proofs.PlaceLemmas.{at_set}
use Rattle.aftr_base.proofs.TotalLemmas.{sum_changed, sum_kept, part_of_sum}

-- 1 where an actor in this state has claimed the area
abbrev pub claim : ℕ → ActorState → ℕ
claim a s = let n : ℕ = cond (claims a s) 1 0 in n

abbrev pub weight : ℕ → Actor → ℕ
weight a x = cond (claims a x.state) 1 0

-- an actor's state and the counts change together
pub moves : (c : CoreState) (who : ℕ) (x : Actor) (s : ActorState) (counts : List ℕ) → Sound c → IsActor c who x
    → length counts ≡ 2 → ((a : ℕ) → a < 2 → slice_index counts a + claim a x.state ≡ count_of c a + claim a s)
    → HoldsRightly c s → Sound (record (with_actor c who (in_state x s)) { counts = counts })
moves c who x s counts h at two count right =
    record {
      planned = h.planned;
      there = h.there;
      two_counts = two;
      two_areas = h.two_areas;
      rows = h.rows;
      counted = λ a l.
          let e : sum_by (weight a) (set c.actors who (in_state x s)) + weight a x ≡ sum_by (weight a) c.actors + claim a s =
          sum_changed (weight a) c.actors who x (in_state x s) at in
          let was : count_of c a ≡ sum_by (weight a) c.actors = h.counted a l in
          let now : slice_index counts a + weight a x ≡ count_of c a + claim a s = count a l in
          omega arith;
      current = h.current;
      writing = h.writing;
      left = h.left;
      held = held;
      next = h.next;
      pointed = h.pointed;
      placed = h.placed;
      each_once = λ n. sum_kept (times n) c.actors who x (in_state x s) at refl ∙ h.each_once n;
      all_drawn = sum_kept draw_count c.actors who x (in_state x s) at refl ∙ h.all_drawn;
      under = under;
      within = h.within;
    }
  where
    held : (i : ℕ) (y : Actor) → get_elem? (set c.actors who (in_state x s)) i ≡ some y → HoldsRightly c y.state
    held i y e =
        elim (at_set c.actors who i (in_state x s) y e) [
          | inl t ↦ let P : Actor → Type 0 = λ z. HoldsRightly c z.state in subst P t.1 right
          | inr t ↦ h.held i y t.1
        ]

    under : (i : ℕ) (y : Actor) → get_elem? (set c.actors who (in_state x s)) i ≡ some y → All (IsDrawRight c) y.draws
    under i y e =
        elim (at_set c.actors who i (in_state x s) y e) [
          | inl t ↦ let P : Actor → Type 0 = λ z. All (IsDrawRight c) z.draws in subst P t.1 (h.under who x at)
          | inr t ↦ h.under i y t.1
        ]

-- an actor that has claimed nothing reads the version
pub looks_sound : (c : CoreState) (who : ℕ) (x : Actor) → Sound c → IsActor c who x → x.state ≡ Idle → Sound (looked c who x)
looks_sound c who x h at idle =
    moves c who x (Looked c.version) c.counts h at h.two_counts (λ a l. ap (λ (s : ActorState). count_of c a + claim a s) idle) tt

-- the count of one area changes, and no other
counts_change : (counts : List ℕ) (b m : ℕ) → length counts ≡ 2 → b < 2 → (a : ℕ) → a < 2
    → ((a ≡ b) × (slice_index (set counts b m) a ≡ m)) ⊎ ((a ≢ b) × (slice_index (set counts b m) a ≡ slice_index counts a))
counts_change counts b m two lb a la =
    elim (cases_eq a b) [
      | inl e ↦
          let inside : b < length counts = omega arith in
          inl (e, ap (λ (n : ℕ). slice_index (set counts b m) n) e ∙ get_or-set_same counts b m 0 inside)
      | inr n ↦ inr (n, get_or-set_other counts b a m 0 n)
    ]

-- the area of the version that was read is claimed
pub enters_sound : (c : CoreState) (who : ℕ) (x : Actor) (v : ℕ) → Sound c → IsActor c who x → x.state ≡ Looked v
    → Sound (entered c who x (v % 2))
enters_sound c who x v h at state =
    let in_two : v % 2 < 2 = omega arith in
    moves c who x (Asks (v % 2)) (set c.counts (v % 2) (count_of c (v % 2) + 1)) h at
    (length-set c.counts (v % 2) (count_of c (v % 2) + 1) ∙ h.two_counts)
    (count (v % 2) in_two) in_two
  where
    none_yet : (a : ℕ) → claim a x.state ≡ 0
    none_yet a = ap (λ (s : ActorState). claim a s) state

    count : (b : ℕ) → b < 2 → (a : ℕ) → a < 2
        → slice_index (set c.counts b (count_of c b + 1)) a + claim a x.state ≡ count_of c a + claim a (Asks b)
    count b lb a l =
        elim (counts_change c.counts b (count_of c b + 1) h.two_counts lb a l) [
          | inl t ↦
              let one : claim a (Asks b) ≡ 1 = ap (λ (t : Bool). let k : ℕ = cond t 1 0 in k) (eq-eqb b a (sym t.0)) in
              let here : count_of c b ≡ count_of c a = ap (λ (n : ℕ). count_of c n) (sym t.0) in
              omega (arith, none_yet a, t.1)
          | inr t ↦
              let none : claim a (Asks b) ≡ 0 = ap (λ (t : Bool). let k : ℕ = cond t 1 0 in k) (ne_eqb b a (λ e. t.0 (sym e))) in
              omega (arith, none_yet a, t.1)
        ]

-- the version in force stands in the claimed area, and is held
pub confirms_sound : (c : CoreState) (who : ℕ) (x : Actor) (a : ℕ) → Sound c → IsActor c who x → x.state ≡ Asks a
    → c.version % 2 ≡ a → Sound (confirmed c who x a)
confirms_sound c who x a h at state same =
    moves c who x (Holds a c.version) c.counts h at h.two_counts
    (λ b l. ap (λ (s : ActorState). count_of c b + claim b s) state) (sym same, inl refl)

pub claimed_area : (c : CoreState) (who : ℕ) (x : Actor) (a : ℕ) → Sound c → IsActor c who x → HasClaimed a x.state → a < 2
claimed_area c who x a h at (inl e) = let right : HoldsRightly c (Asks a) = subst (HoldsRightly c) e (h.held who x at) in right
claimed_area c who x a h at (inr t) =
    let right : HoldsRightly c (Holds a t.0) = subst (HoldsRightly c) t.1 (h.held who x at) in
    omega (arith, right.0)

-- who holds a version holds one that there is
pub held_there : (c : CoreState) (who : ℕ) (x : Actor) (a w : ℕ) → Sound c → IsActor c who x → x.state ≡ Holds a w
    → w < length c.plan.tables
held_there c who x a w h at state =
    let right : HoldsRightly c (Holds a w) = subst (HoldsRightly c) state (h.held who x at) in
    elim right.1 [ inl e ↦ omega (arith, h.there) | inr t ↦ omega (arith, h.there, t.0) ]

pub its_claim : (x : Actor) (a b : ℕ) → HasClaimed a x.state → claim b x.state ≡ claim b (Asks a)
its_claim x a b (inl e) = ap (λ (s : ActorState). claim b s) e
its_claim x a b (inr t) = ap (λ (s : ActorState). claim b s) t.1

-- who has claimed an area is counted there
pub counted_there : (c : CoreState) (who : ℕ) (x : Actor) (a : ℕ) → Sound c → IsActor c who x → HasClaimed a x.state
    → 1 ≤ count_of c a
counted_there c who x a h at has =
    let l : a < 2 = claimed_area c who x a h at has in
    let one : claim a (Asks a) ≡ 1 = ap (λ (t : Bool). let k : ℕ = cond t 1 0 in k) (eq-eqb a a refl) in
    let part : weight a x ≤ sum_by (weight a) c.actors = part_of_sum (weight a) c.actors who x at in
    let same : weight a x ≡ claim a (Asks a) = its_claim x a a has in
    let was : count_of c a ≡ sum_by (weight a) c.actors = h.counted a l in
    omega arith

-- a claim is given up
pub leaves_sound : (c : CoreState) (who : ℕ) (x : Actor) (a : ℕ) → Sound c → IsActor c who x → HasClaimed a x.state
    → Sound (gone c who x a)
leaves_sound c who x a h at has =
    moves c who x Idle (set c.counts a (count_of c a - 1)) h at (length-set c.counts a (count_of c a - 1) ∙ h.two_counts) count tt
  where
    count : (b : ℕ) → b < 2 → slice_index (set c.counts a (count_of c a - 1)) b + claim b x.state ≡ count_of c b + claim b Idle
    count b l =
        let same : claim b x.state ≡ claim b (Asks a) = its_claim x a b has in
        let some_one : 1 ≤ count_of c a = counted_there c who x a h at has in
        elim (counts_change c.counts a (count_of c a - 1) h.two_counts (claimed_area c who x a h at has) b l) [
          | inl t ↦
              let one : claim b (Asks a) ≡ 1 = ap (λ (t : Bool). let k : ℕ = cond t 1 0 in k) (eq-eqb a b (sym t.0)) in
              let here : count_of c a ≡ count_of c b = ap (λ (n : ℕ). count_of c n) (sym t.0) in
              omega (arith, t.1)
          | inr t ↦
              let none : claim b (Asks a) ≡ 0 = ap (λ (t : Bool). let k : ℕ = cond t 1 0 in k) (ne_eqb a b (λ e. t.0 (sym e))) in
              omega (arith, t.1)
        ]

pub not_written : (d : DeskState) → (IsWriting d → ⊥) → words_written d ≡ 0
not_written Resting n = refl
not_written Ready n = refl
not_written (Writing j) n = absurd (n tt)

-- while the desk does not write, the spare area begins with the table that was in force before
before_whole : (c : CoreState) → Sound c → (IsWriting c.desk → ⊥) → (w : ℕ) → w + 1 ≡ c.version → Begins (table c.plan w) (area c (w % 2))
before_whole c h still w e =
    let version : c.version ≡ suc w = omega arith in
    let here : spare c ≡ w % 2 = omega arith in
    λ j l.
    let inside : j < length (stale c.plan c.version) = omega (arith, ap (λ (v : ℕ). length (stale c.plan v)) version) in
    sym (ap (λ (a : ℕ). slice_index (area c a) j) here)
    ∙ h.left j (omega (arith, not_written c.desk still)) inside
    ∙ ap (λ (v : ℕ). slice_index (stale c.plan v) j) version

-- who holds a version finds its table in the area
pub reads_whole : (c : CoreState) (who : ℕ) (x : Actor) (a w : ℕ) → Sound c → IsActor c who x → x.state ≡ Holds a w
    → Begins (table c.plan w) (area c a)
reads_whole c who x a w h at state =
    let right : HoldsRightly c (Holds a w) = subst (HoldsRightly c) state (h.held who x at) in
    let whole : Begins (table c.plan w) (area c (w % 2)) =
    elim right.1 [
      | inl e ↦ let P : ℕ → Type 0 = λ v. Begins (table c.plan v) (area c (v % 2)) in subst P (sym e) h.current
      | inr t ↦ before_whole c h t.1 w t.0
    ] in
    let P : ℕ → Type 0 = λ b. Begins (table c.plan w) (area c b) in
    subst P (sym right.0) whole
