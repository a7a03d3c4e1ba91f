-- What a board under the rule tells a seat that reads the version word.
use Rattle.std.proofs.Common.{◌≡◌, ℕ, ◌+◌, ◌<◌, ◌≤◌, ◌≢◌, ◌⊎◌, Bool, true, false, cond, nat_le, List, [], ◌==◌, count_by, length, map, slice_index, sum_by, subst, sym, ap, ◌∙◌, arith, inl, inr}
use mathlib.Core.Option.{some}
use lib.ListN.{get_elem?}
use Rattle.std.proofs.lemmas.Bool.{cases_lt}
use Rattle.std.proofs.lemmas.List.Elements.{All-weaker}
use Rattle.std.proofs.lemmas.List.Sums.{count_by-le-length}
use Rattle.atomic_table.specs.Table.{State}
use Rattle.swap_core.specs.Plans.{Tables, IsPlan, limit, window}
use Rattle.swap_core.specs.Points.{in_force}
use Rattle.swap_core.specs.States.{IsActor, newcomer, count_of}
use Rattle.swap_core.specs.Sound.{Sound, HoldsRightly, IsAtWork, IsDrawRight, times, draw_count, once_below}
use Rattle.swap_core.specs.declared.actors.Actor.{Actor}
use Rattle.swap_core.specs.declared.actors.ActorState.TheVariants.{Holds}
use Rattle.swap_core.specs.declared.actors.DeskState.{DeskState}
use Rattle.swap_core.proofs.Laws.{few_records, few_versions}
use Rattle.swap_core.proofs.Laws.{weight}
use Rattle.area_swap.specs.Places.{version_place, claims_place}
use Rattle.area_swap.specs.declared.board.View.{View}
use Rattle.area_swap.specs.Views.{now_of, unpacked, spare_of}
use Rattle.area_swap.specs.Rule.{Ruled, Sees, SeesClaims, IsDrawnBy, actor_of, right_of, share_of}
use Rattle.area_swap.proofs.Members.{map_at, sum_map, sum_below, sum_alone, two_parts}
use Rattle.area_swap.proofs.Packing.{unpack_packed}
use Rattle.area_swap.proofs.Keeping.{actor_at, shows_desk, ruled_as, fits}

at_most_one : (b : Bool) → (let k : ℕ = cond b 1 0 in k) ≤ 1
at_most_one true = omega arith
at_most_one false = omega arith

module _ (p : Tables) (s : State (Unit {0}) View) (r : Ruled p s) where
  -- no view counts more claims than its share
  light : (a i : ℕ) (v : View) → get_elem? s.views i ≡ some v → weight a v.actor ≤ v.share
  light a i v at =
      elim (cases_lt 0 v.share) [
        | inl some_share ↦
            let one : weight a v.actor ≤ 1 = at_most_one (Rattle.swap_core.specs.Sound.claims a v.actor.state) in
            omega arith
        | inr none ↦
            let zero_share : v.share ≡ 0 = omega arith in
            let same : v.actor ≡ newcomer = (r.each i v at).unshared zero_share in
            let light_one : weight a v.actor ≡ 0 = ap (λ (x : Actor). weight a x) same in
            omega arith
      ]

  -- so no count wraps
  pub few_claims : (a : ℕ) → a < 2 → count_of r.core a ≤ 65536
  few_claims a l =
      let counted : count_of r.core a ≡ sum_by (weight a) r.core.actors = r.sound.counted a l in
      let shown : sum_by (weight a) (map actor_of s.views) ≡ sum_by (weight a) r.core.actors =
      ap (λ (xs : List Actor). sum_by (weight a) xs) r.actors in
      let by_view : sum_by (weight a) (map actor_of s.views) ≡ sum_by (λ (v : View). weight a v.actor) s.views =
      sum_map (weight a) actor_of s.views in
      let below : sum_by (λ (v : View). weight a v.actor) s.views ≤ sum_by share_of s.views =
      sum_below (λ (v : View). weight a v.actor) share_of s.views (light a) in
      omega (arith, r.shares)

  module _ (id : ℕ) (v : View) (at : get_elem? s.views id ≡ some v) where
    -- beside the whole share nobody has drawn or claimed anything
    pub others_new : v.share ≡ 65536 → (j : ℕ) (y : Actor) → j ≢ id → IsActor r.core j y → y ≡ newcomer
    others_new whole j y n e =
        let Q : List Actor → Type 0 = λ l. get_elem? l j ≡ some y in
        let m : (u : View) × (get_elem? s.views j ≡ some u) × (actor_of u ≡ y) =
        map_at actor_of s.views j y (subst Q (sym r.actors) e) in
        let both : share_of v + share_of m.0 ≤ sum_by share_of s.views =
        two_parts share_of s.views id j v m.0 (λ k. n (sym k)) at m.1 in
        let none : m.0.share ≡ 0 = omega (arith, r.shares) in
        sym m.2 ∙ (r.each j m.0 m.1).unshared none

    pub draws_all : v.share ≡ 65536 → length v.actor.draws ≡ r.core.records
    draws_all whole =
        sym (sum_alone draw_count r.core.actors id v.actor (actor_at p s r id v at)
        (λ j y n e. ap (λ (x : Actor). draw_count x) (others_new whole j y n e)))
        ∙ r.sound.all_drawn

    pub draws_each : v.share ≡ 65536 → (number : ℕ) → times number v.actor ≡ once_below number r.core.records
    draws_each whole number =
        sym (sum_alone (times number) r.core.actors id v.actor (actor_at p s r id v at)
        (λ j y n e. ap (λ (x : Actor). times number x) (others_new whole j y n e)))
        ∙ r.sound.each_once number

    -- beside the whole right to draw nobody has drawn anything
    others_undrawn : v.right ≡ 65536 → (j : ℕ) (y : Actor) → j ≢ id → IsActor r.core j y → y.draws ≡ []
    others_undrawn whole j y n e =
        let Q : List Actor → Type 0 = λ l. get_elem? l j ≡ some y in
        let m : (u : View) × (get_elem? s.views j ≡ some u) × (actor_of u ≡ y) =
        map_at actor_of s.views j y (subst Q (sym r.actors) e) in
        let both : right_of v + right_of m.0 ≤ sum_by right_of s.views =
        two_parts right_of s.views id j v m.0 (λ k. n (sym k)) at m.1 in
        let none : m.0.right ≡ 0 = omega (arith, r.rights) in
        ap (λ (x : Actor). x.draws) (sym m.2) ∙ (r.each j m.0 m.1).undrawn none

    pub drew_all_now : v.right ≡ 65536 → length v.actor.draws ≡ r.core.records
    drew_all_now whole =
        sym (sum_alone draw_count r.core.actors id v.actor (actor_at p s r id v at)
        (λ j y n e. ap (λ (l : List (ℕ × ℕ)). length l) (others_undrawn whole j y n e)))
        ∙ r.sound.all_drawn

    pub drew_each_now : v.right ≡ 65536 → (number : ℕ) → times number v.actor ≡ once_below number r.core.records
    drew_each_now whole number =
        sym (sum_alone (times number) r.core.actors id v.actor (actor_at p s r id v at)
        (λ j y n e. ap (λ (l : List (ℕ × ℕ)). count_by (λ (d : ℕ × ℕ). d.0 == number) l) (others_undrawn whole j y n e)))
        ∙ r.sound.each_once number

    -- who has the whole share has that right
    pub whole_right_now : v.share ≡ 65536 → v.right ≡ 65536
    whole_right_now whole =
        sym (sum_alone right_of s.views id v at (λ j y n e.
        (let both : share_of v + share_of y ≤ sum_by share_of s.views =
        two_parts share_of s.views id j v y (λ k. n (sym k)) at e in
        let none : y.share ≡ 0 = omega (arith, r.shares) in
        (r.each j y e).rightless none)))
        ∙ r.rights

    older : (d : ℕ × ℕ) → IsDrawRight r.core d → IsDrawnBy (now_of r.core) d
    older d right =
        let below : in_force r.core.points d.0 ≤ length r.core.points =
        count_by-le-length (λ (q : ℕ). nat_le q d.0) r.core.points in
        (right.0, omega (arith, right.1, r.sound.pointed))

    held_now : (a w : ℕ) → v.actor.state ≡ Holds a w → (w ≡ r.core.version) ⊎ (w + 1 ≡ r.core.version)
    held_now a w e =
        let right : HoldsRightly r.core (Holds a w) =
        subst (HoldsRightly r.core) e (r.sound.held id v.actor (actor_at p s r id v at)) in
        elim right.1 [ inl t ↦ inl t | inr t ↦ inr t.0 ]

    pub sees_now : v.plan ≡ p → Sees v (now_of r.core)
    sees_now same =
        let plans : r.core.plan ≡ v.plan = r.same_plan ∙ sym same in
        let next : v.has_desk ≡ true → IsAtWork v.desk
        → (r.core.version + 1 < length v.plan.tables) × ((window v.plan (r.core.version + 1)).earliest ≤ r.core.records) =
        λ has work.
        let D : DeskState → Type 0 = IsAtWork in
        let N : Tables → Type 0 =
        λ q. (r.core.version + 1 < length q.tables) × ((window q (r.core.version + 1)).earliest ≤ r.core.records) in
        subst N plans (r.sound.next (subst D (shows_desk p s r id v at has).0 work)) in
        let Planned : Tables → Type 0 = λ q. IsPlan q in
        let There : Tables → Type 0 = λ q. r.core.version < length q.tables in
        let Within : Tables → Type 0 = λ q. r.core.records ≤ limit q r.core.version in
        record {
          moment = record { board = s; ruled = ruled_as p s r id v at same; seat = id; sits = at };
          word = r.words.first;
          later = (fits p s r id v at).seen;
          drawn = All-weaker (IsDrawRight r.core) (IsDrawnBy (now_of r.core)) older v.actor.draws
              (r.sound.under id v.actor (actor_at p s r id v at));
          all_drawn = draws_all;
          each_once = draws_each;
          drew_all = drew_all_now;
          drew_each = drew_each_now;
          whole_right = whole_right_now;
          planned = subst Planned plans r.sound.planned;
          there = subst There plans r.sound.there;
          within = subst Within plans r.sound.within;
          held = held_now;
          pointed = λ has. ap (λ (l : List ℕ). length l) (shows_desk p s r id v at has).1 ∙ r.sound.pointed;
          next = next;
          few = few_versions r.core r.sound;
          small = few_records r.core r.sound;
        }

    pub unpacks : unpacked (slice_index s.words version_place) ≡ now_of r.core
    unpacks =
        unpack_packed (slice_index s.words version_place) (now_of r.core) r.words.first (omega (arith, few_records r.core r.sound))

    pub sees_word : v.plan ≡ p → Sees v (unpacked (slice_index s.words version_place))
    sees_word same = subst (Sees v) (sym unpacks) (sees_now same)

    pub sees_claims : v.plan ≡ p → (i : ℕ) → i ≡ claims_place (spare_of v) → SeesClaims v (slice_index s.words i)
    sees_claims same i place =
        record {
          moment = record { board = s; ruled = ruled_as p s r id v at same; seat = id; sits = at };
          word = ap (λ (k : ℕ). slice_index s.words k) (sym place);
        }
