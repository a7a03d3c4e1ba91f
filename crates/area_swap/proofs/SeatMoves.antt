-- Seats are split and joined.
use Rattle.std.proofs.Common.{◌≡◌, ◌≢◌, ℕ, ◌+◌, ◌%◌, ◌<◌, true, false, List, [], ◌∷◌, ◌++◌, length, set, map, sum_by, subst, sym, refl, ap, ◌∙◌, arith, inl, inr}
use mathlib.Core.Option.{some, some-injective}
use lib.ListN.{get_elem?}
use Rattle.std.proofs.lemmas.List.{map-set, map-append, set_comm}
use Rattle.std.proofs.lemmas.List.Sums.{sum_by_push}
use Rattle.atomic_table.specs.Table.{State, Splits, Joins, opening}
use Rattle.atomic_table.proofs.Lists.{at_set, at_snoc, at_longer, at_last, set_here, set_else, set_again}
use Rattle.swap_core.specs.Plans.{Tables, IsPlan}
use Rattle.swap_core.specs.States.{newcomer, joined_by_newcomer, merged}
use Rattle.swap_core.specs.declared.actors.Actor.{Actor}
use Rattle.swap_core.specs.declared.actors.ActorState.TheVariants.{Idle}
use Rattle.swap_core.specs.declared.actors.DeskState.{DeskState}
use Rattle.aftr_base.proofs.PlaceLemmas.{at_there, at_set_else}
use Rattle.aftr_base.proofs.TotalLemmas.{sum_changed}
use Rattle.swap_core.proofs.Laws.{newcomer_sound, merged_sound}
use Rattle.area_swap.specs.declared.answers.Seen.{Seen}
use Rattle.area_swap.specs.declared.board.View.{View}
use Rattle.area_swap.specs.Views.{now_of, first_view, worker_view, desk_view, kept_half, new_half, kept_lending, lent_half, together, with_desk_of, spent_view, latest, IsUpTo}
use Rattle.area_swap.specs.Rule.{Ruled, Moment, IsLawfulView, ShowsDesk, actor_of, right_of, share_of}
use Rattle.area_swap.proofs.Opening.{opens, first_words}
use Rattle.area_swap.proofs.Members.{at_end}
use Rattle.area_swap.proofs.Keeping.{actor_at, desk_after, has_desk_of}

-- a view without the desk comes behind the others
desk_stays : (views : List View) (state : DeskState) (points : List ℕ) (u : View) → ShowsDesk views state points
    → u.has_desk ≡ false → ShowsDesk (views ++ u ∷ []) state points
desk_stays views state points u h lacks =
    record {
      seat = h.seat;
      view = h.view;
      sits = at_longer views (u ∷ []) h.seat h.view h.sits;
      has = h.has;
      alone = λ i v at has.
          elim (at_snoc views u v i at) [
            | inl k ↦ h.alone i v k has
            | inr k ↦
                let is : true ≡ false = sym has ∙ sym (ap (λ (z : View). z.has_desk) k) ∙ lacks in
                cc
          ];
      same_state = h.same_state;
      same_points = h.same_points;
    }

module _ (p : Tables) (s : State (Unit {0}) View) (r : Ruled p s) (id : ℕ) (v left right : View) (at : get_elem? s.views id ≡ some v) where
  -- a seat is cut in two: the second has drawn nothing and claimed nothing
  cuts : left.actor ≡ v.actor → right.actor ≡ newcomer → left.share + right.share ≡ v.share → left.right + right.right ≡ v.right
      → ShowsDesk (set s.views id left ++ right ∷ []) r.core.desk r.core.points
      → IsLawfulView p (now_of r.core) left → IsLawfulView p (now_of r.core) right
      → Ruled p (record { words = s.words; homes = s.homes; views = set s.views id left ++ right ∷ [] })
  cuts same new shares rights desk fits_left fits_right =
      record {
        core = joined_by_newcomer r.core;
        sound = newcomer_sound r.core r.sound;
        same_plan = r.same_plan;
        words = r.words;
        actors = map-append actor_of (set s.views id left) (right ∷ []) ∙ both;
        desk = desk;
        shares = sum_by_push share_of (set s.views id left) right ∙ total;
        rights = sum_by_push right_of (set s.views id left) right ∙ total_right;
        each = each;
      }
    where
      first : map actor_of (set s.views id left) ≡ r.core.actors
      first =
          map-set actor_of s.views id left ∙ ap (λ (l : List Actor). set l id left.actor) r.actors
          ∙ ap (λ (x : Actor). set r.core.actors id x) same ∙ set_again r.core.actors id v.actor (actor_at p s r id v at)

      both : map actor_of (set s.views id left) ++ right.actor ∷ [] ≡ r.core.actors ++ newcomer ∷ []
      both = λ i. first i ++ new i ∷ []

      total : sum_by share_of (set s.views id left) + right.share ≡ 65536
      total =
          let change : sum_by share_of (set s.views id left) + v.share ≡ sum_by share_of s.views + left.share =
          sum_changed share_of s.views id v left at in
          omega (arith, r.shares)

      total_right : sum_by right_of (set s.views id left) + right.right ≡ 65536
      total_right =
          let change : sum_by right_of (set s.views id left) + v.right ≡ sum_by right_of s.views + left.right =
          sum_changed right_of s.views id v left at in
          omega (arith, r.rights)

      each : (i : ℕ) (u : View) → get_elem? (set s.views id left ++ right ∷ []) i ≡ some u → IsLawfulView p (now_of r.core) u
      each i u e =
          let P : View → Type 0 = λ z. IsLawfulView p (now_of r.core) z in
          elim (at_snoc (set s.views id left) right u i e) [
            | inl k ↦
                elim (at_set s.views id i left u k) [
                  | inl t ↦ subst P t.1 fits_left
                  | inr t ↦ r.each i u t.1
                ]
            | inr k ↦ subst P k fits_right
          ]

-- a worker's seat is split
pub halves_keep : (p : Tables) (id : ℕ) (v : View) → v.plan ≡ p → 0 < v.share → v.share % 2 ≡ 0 → v.has_desk ≡ false
    → Splits (Ruled p) id v (kept_half v) (new_half v)
halves_keep p id v plan shared even lacks s r at =
    let f : IsLawfulView p (now_of r.core) v = r.each id v at in
    cuts p s r id v (kept_half v) (new_half v) at refl refl (omega arith) (omega arith)
    (desk_stays (set s.views id (kept_half v)) r.core.desk r.core.points (new_half v)
    (desk_after s.views r.core.desk r.core.desk r.core.points r.core.points id v (kept_half v) r.desk at refl
    (λ has. absurd (let e : true ≡ false = sym has ∙ lacks in cc)) (λ _. (refl, refl))) lacks)
    (record { same_plan = λ _. plan; unshared = λ none. absurd (omega arith); rightless = λ none. absurd (omega arith); undrawn = λ none. f.undrawn (omega arith); seen = f.seen; prior = f.prior })
    (record { same_plan = λ _. plan; unshared = λ _. refl; rightless = λ none. absurd (omega arith); undrawn = λ _. refl; seen = f.seen; prior = f.prior })

-- a seat for one who holds and never draws is taken from a worker's
pub lending_keeps : (p : Tables) (id : ℕ) (v : View) → v.plan ≡ p → 0 < v.share → v.share % 2 ≡ 0 → v.has_desk ≡ false
    → Splits (Ruled p) id v (kept_lending v) (lent_half v)
lending_keeps p id v plan shared even lacks s r at =
    let f : IsLawfulView p (now_of r.core) v = r.each id v at in
    cuts p s r id v (kept_lending v) (lent_half v) at refl refl (omega arith) (omega arith)
    (desk_stays (set s.views id (kept_lending v)) r.core.desk r.core.points (lent_half v)
    (desk_after s.views r.core.desk r.core.desk r.core.points r.core.points id v (kept_lending v) r.desk at refl
    (λ has. absurd (let e : true ≡ false = sym has ∙ lacks in cc)) (λ _. (refl, refl))) lacks)
    (record { same_plan = λ _. plan; unshared = λ none. absurd (omega arith); rightless = λ none. absurd (omega arith); undrawn = f.undrawn; seen = f.seen; prior = f.prior })
    (record { same_plan = λ _. plan; unshared = λ _. refl; rightless = λ _. refl; undrawn = λ _. refl; seen = f.seen; prior = f.prior })

-- the desk's seat is taken from the first
pub desk_apart : (p : Tables) (id : ℕ) (v : View) → v.plan ≡ p → 0 < v.share → v.has_desk ≡ true
    → Splits (Ruled p) id v (worker_view v) (desk_view v)
desk_apart p id v plan shared has s r at =
    let f : IsLawfulView p (now_of r.core) v = r.each id v at in
    cuts p s r id v (worker_view v) (desk_view v) at refl refl (omega arith) (omega arith) shown
    (record { same_plan = λ _. plan; unshared = λ none. absurd (omega arith); rightless = λ none. absurd (omega arith); undrawn = f.undrawn; seen = f.seen; prior = f.prior })
    (record { same_plan = λ _. plan; unshared = λ _. refl; rightless = λ _. refl; undrawn = λ _. refl; seen = f.seen; prior = f.prior })
  where
    others : (i : ℕ) (u : View) → get_elem? (set s.views id (worker_view v)) i ≡ some u → u.has_desk ≡ true → ⊥
    others i u e t =
        elim (at_set s.views id i (worker_view v) u e) [
          | inl k ↦ let is : false ≡ true = ap (λ (z : View). z.has_desk) k.1 ∙ t in cc
          | inr k ↦ k.0 (r.desk.alone i u k.1 t ∙ sym (r.desk.alone id v at has))
        ]

    same : v ≡ r.desk.view
    same = some-injective v r.desk.view (sym at ∙ ap (λ (i : ℕ). get_elem? s.views i) (r.desk.alone id v at has) ∙ r.desk.sits)

    shown : ShowsDesk (set s.views id (worker_view v) ++ desk_view v ∷ []) r.core.desk r.core.points
    shown =
        record {
          seat = length (set s.views id (worker_view v));
          view = desk_view v;
          sits = at_last (set s.views id (worker_view v)) (desk_view v) (length (set s.views id (worker_view v))) refl;
          has = has;
          alone = alone;
          same_state = ap (λ (u : View). u.desk) same ∙ r.desk.same_state;
          same_points = ap (λ (u : View). u.points) same ∙ r.desk.same_points;
        }
      where
        alone : (i : ℕ) (u : View) → get_elem? (set s.views id (worker_view v) ++ desk_view v ∷ []) i ≡ some u → u.has_desk ≡ true
            → i ≡ length (set s.views id (worker_view v))
        alone i u e t =
            elim (at_end (set s.views id (worker_view v)) (desk_view v) u i e) [
              | inl k ↦ absurd (others i u k t)
              | inr k ↦ k.0
            ]

-- a joined seat leaves a view behind that fits
spent_fits : (p : Tables) (now : Seen) → IsLawfulView p now spent_view
spent_fits p now =
    record {
      same_plan = λ seated. elim seated [ inl l ↦ absurd (omega arith) | inr e ↦ absurd (let is : false ≡ true = e in cc) ];
      unshared = λ _. refl;
      rightless = λ _. refl;
      undrawn = λ _. refl;
      seen = record { version = omega arith; records = omega arith };
      prior = record { version = omega arith; records = omega arith };
    }

module _ (p : Tables) (s : State (Unit {0}) View) (r : Ruled p s) (id other : ℕ) (v w both : View) (at : get_elem? s.views id ≡ some v) (apart : other ≢ id) (there : get_elem? s.views other ≡ some w) where
  -- one seat takes in another, whose draws move behind its own
  merges : v.actor.state ≡ Idle → w.actor.state ≡ Idle
      → both.actor ≡ record { state = v.actor.state; draws = v.actor.draws ++ w.actor.draws } → both.share ≡ v.share + w.share → both.right ≡ v.right + w.right
      → IsLawfulView p (now_of r.core) both → ShowsDesk (set (set s.views id both) other spent_view) r.core.desk r.core.points
      → Ruled p (record { words = s.words; homes = s.homes; views = set (set s.views id both) other spent_view })
  merges idle other_idle actor share right fit desk =
      record {
        core = merged r.core id v.actor other w.actor;
        sound = merged_sound r.core id other v.actor w.actor r.sound (λ e. apart (sym e)) (actor_at p s r id v at) idle (actor_at p s r other w there) other_idle;
        same_plan = r.same_plan;
        words = r.words;
        actors = map-set actor_of (set s.views id both) other spent_view ∙ actors;
        desk = desk;
        shares = total;
        rights = total_right;
        each = each;
      }
    where
      actors : set (map actor_of (set s.views id both)) other newcomer ≡ (merged r.core id v.actor other w.actor).actors
      actors =
          ap (λ (l : List Actor). set l other newcomer) (map-set actor_of s.views id both)
          ∙ set_comm (map actor_of s.views) id other both.actor newcomer (λ e. apart (sym e))
          ∙ ap (λ (x : Actor). set (set (map actor_of s.views) other newcomer) id x) actor
          ∙ ap (λ (l : List Actor). set (set l other newcomer) id (record { state = v.actor.state; draws = v.actor.draws ++ w.actor.draws })) r.actors

      total : sum_by share_of (set (set s.views id both) other spent_view) ≡ 65536
      total =
          let still : get_elem? (set s.views id both) other ≡ some w = at_set_else s.views id other both w apart there in
          let first : sum_by share_of (set s.views id both) + v.share ≡ sum_by share_of s.views + both.share =
          sum_changed share_of s.views id v both at in
          let second : sum_by share_of (set (set s.views id both) other spent_view) + w.share ≡ sum_by share_of (set s.views id both) + 0 =
          sum_changed share_of (set s.views id both) other w spent_view still in
          omega (arith, r.shares)

      total_right : sum_by right_of (set (set s.views id both) other spent_view) ≡ 65536
      total_right =
          let still : get_elem? (set s.views id both) other ≡ some w = at_set_else s.views id other both w apart there in
          let first : sum_by right_of (set s.views id both) + v.right ≡ sum_by right_of s.views + both.right =
          sum_changed right_of s.views id v both at in
          let second : sum_by right_of (set (set s.views id both) other spent_view) + w.right ≡ sum_by right_of (set s.views id both) + 0 =
          sum_changed right_of (set s.views id both) other w spent_view still in
          omega (arith, r.rights)

      each : (i : ℕ) (u : View) → get_elem? (set (set s.views id both) other spent_view) i ≡ some u → IsLawfulView p (now_of r.core) u
      each i u e =
          let P : View → Type 0 = λ z. IsLawfulView p (now_of r.core) z in
          elim (at_set (set s.views id both) other i spent_view u e) [
            | inl t ↦ subst P t.1 (spent_fits p (now_of r.core))
            | inr t ↦
                elim (at_set s.views id i both u t.1) [
                  | inl k ↦ subst P k.1 fit
                  | inr k ↦ r.each i u k.1
                ]
          ]

  lacks_still : w.has_desk ≡ false → v.has_desk ≡ false → both.has_desk ≡ v.has_desk
      → ShowsDesk (set (set s.views id both) other spent_view) r.core.desk r.core.points
  lacks_still w_lacks v_lacks keeps =
      desk_after (set s.views id both) r.core.desk r.core.desk r.core.points r.core.points other w spent_view
      (desk_after s.views r.core.desk r.core.desk r.core.points r.core.points id v both r.desk at keeps
      (λ has. absurd (let e : true ≡ false = sym has ∙ v_lacks in cc)) (λ _. (refl, refl)))
      (at_set_else s.views id other both w apart there) (sym w_lacks)
      (λ has. absurd (let e : true ≡ false = sym has ∙ w_lacks in cc)) (λ _. (refl, refl))

  -- the desk goes from the other seat to this one
  goes_over : v.has_desk ≡ false → w.has_desk ≡ true → both.has_desk ≡ true → both.desk ≡ w.desk → both.points ≡ w.points
      → ShowsDesk (set (set s.views id both) other spent_view) r.core.desk r.core.points
  goes_over v_lacks w_has has desk points =
      record {
        seat = id;
        view = both;
        sits = at_set_else (set s.views id both) other id spent_view both (λ e. apart (sym e)) (set_here s.views id both (at_there s.views id v at));
        has = has;
        alone = alone;
        same_state = desk ∙ (has_desk_of s.views r.core.desk r.core.points other w r.desk there w_has).0;
        same_points = points ∙ (has_desk_of s.views r.core.desk r.core.points other w r.desk there w_has).1;
      }
    where
      alone : (i : ℕ) (u : View) → get_elem? (set (set s.views id both) other spent_view) i ≡ some u → u.has_desk ≡ true → i ≡ id
      alone i u e t =
          elim (at_set (set s.views id both) other i spent_view u e) [
            | inl k ↦ absurd (let is : false ≡ true = ap (λ (z : View). z.has_desk) k.1 ∙ t in cc)
            | inr k ↦
                elim (at_set s.views id i both u k.1) [
                  | inl m ↦ m.0
                  | inr m ↦ absurd (k.0 (r.desk.alone i u m.1 t ∙ sym (r.desk.alone other w there w_has)))
                ]
          ]

up_to_latest : (s t now : Seen) → IsUpTo s now → IsUpTo t now → IsUpTo (latest s t) now
up_to_latest s t now h k = record { version = omega (arith, h.version, k.version); records = omega (arith, h.records, k.records) }

below_latest : (a s t : Seen) → IsUpTo a s → IsUpTo a (latest s t)
below_latest a s t h = record { version = omega (arith, h.version); records = omega (arith, h.records) }

-- two seats without a part in the right to draw have drawn nothing
both_undrawn : (v w : View) → (v.right ≡ 0 → v.actor.draws ≡ []) → (w.right ≡ 0 → w.actor.draws ≡ []) → v.right + w.right ≡ 0
    → v.actor.draws ++ w.actor.draws ≡ []
both_undrawn v w f g none =
    let first : v.actor.draws ≡ [] = f (omega arith) in
    let second : w.actor.draws ≡ [] = g (omega arith) in
    ap (λ (l : List (ℕ × ℕ)). l ++ w.actor.draws) first ∙ second

-- a worker's seat is joined into another
pub together_keeps : (p : Tables) (id : ℕ) (v : View) (other : ℕ) (w : View) → v.plan ≡ p → 0 < v.share
    → v.actor.state ≡ Idle → w.actor.state ≡ Idle → v.has_desk ≡ false → w.has_desk ≡ false
    → Joins (Ruled p) id v other w (together v w) spent_view
together_keeps p id v other w plan shared idle other_idle lacks w_lacks s r at apart there =
    let there' : get_elem? s.views other ≡ some w = sym (set_else s.views id other (together v w) apart) ∙ there in
    let f : IsLawfulView p (now_of r.core) v = r.each id v at in
    let g : IsLawfulView p (now_of r.core) w = r.each other w there' in
    merges p s r id other v w (together v w) at apart there' idle other_idle refl refl refl
    (record {
      same_plan = λ _. plan;
      unshared = λ none. absurd (omega arith);
      rightless = λ none. absurd (omega arith);
      undrawn = λ none. both_undrawn v w f.undrawn g.undrawn none;
      seen = up_to_latest v.seen w.seen (now_of r.core) f.seen g.seen;
      prior = below_latest v.prior v.seen w.seen f.prior;
    })
    (lacks_still p s r id other v w (together v w) at apart there' w_lacks lacks refl)

-- the desk's seat is joined into a worker's
pub with_desk_keeps : (p : Tables) (id : ℕ) (v : View) (other : ℕ) (w : View) → v.plan ≡ p → 0 < v.share
    → v.actor.state ≡ Idle → w.actor.state ≡ Idle → v.has_desk ≡ false → w.has_desk ≡ true
    → Joins (Ruled p) id v other w (with_desk_of v w) spent_view
with_desk_keeps p id v other w plan shared idle other_idle lacks w_has s r at apart there =
    let there' : get_elem? s.views other ≡ some w = sym (set_else s.views id other (with_desk_of v w) apart) ∙ there in
    let f : IsLawfulView p (now_of r.core) v = r.each id v at in
    let g : IsLawfulView p (now_of r.core) w = r.each other w there' in
    merges p s r id other v w (with_desk_of v w) at apart there' idle other_idle refl refl refl
    (record {
      same_plan = λ _. plan;
      unshared = λ none. absurd (omega arith);
      rightless = λ none. absurd (omega arith);
      undrawn = λ none. both_undrawn v w f.undrawn g.undrawn none;
      seen = up_to_latest v.seen w.seen (now_of r.core) f.seen g.seen;
      prior = below_latest v.prior v.seen w.seen f.prior;
    })
    (goes_over p s r id other v w (with_desk_of v w) at apart there' lacks w_has refl refl refl)

-- the two seats that the areas begin with have a moment: that of the opening
pub first_moments : (p : Tables) → IsPlan p → Moment (worker_view (first_view p)) × Moment (desk_view (first_view p))
first_moments p plan =
    let ruled : Ruled p (record { words = first_words p; homes = []; views = worker_view (first_view p) ∷ desk_view (first_view p) ∷ [] }) =
    desk_apart p 0 (first_view p) refl (omega arith) refl (opening (first_words p) [] (first_view p)) (opens p plan (first_words p) refl) refl in (
      record {
        board = record { words = first_words p; homes = []; views = worker_view (first_view p) ∷ desk_view (first_view p) ∷ [] };
        ruled = ruled;
        seat = 0;
        sits = refl;
      },
      record {
        board = record { words = first_words p; homes = []; views = worker_view (first_view p) ∷ desk_view (first_view p) ∷ [] };
        ruled = ruled;
        seat = 1;
        sits = refl;
      },
    )
