-- A step of one seat keeps the rule, where the state that it makes of the machine is sound and is shown.
use Rattle.std.proofs.Common.{◌≡◌, ℕ, ◌≢◌, Bool, true, false, List, set, slice_index, subst, sym, refl, ap, ◌∙◌, inl, inr}
use Rattle.std.proofs.lemmas.List.{set-get_or, map-set}
use mathlib.Core.Option.{some, some-injective}
use lib.ListN.{get_elem?}
use Rattle.std.proofs.lemmas.Bool.{cases_eq}
use Rattle.atomic_table.specs.Table.{State}
use Rattle.atomic_table.proofs.Lists.{at_map, at_set, set_here, set_again}
use Rattle.swap_core.specs.Plans.{Tables}
use Rattle.swap_core.specs.States.{CoreState, IsActor}
use Rattle.swap_core.specs.Sound.{Sound}
use Rattle.swap_core.specs.declared.actors.Actor.{Actor}
use Rattle.swap_core.specs.declared.actors.DeskState.{DeskState}
use Rattle.aftr_base.proofs.PlaceLemmas.{at_there, at_set_else}
use Rattle.aftr_base.proofs.TotalLemmas.{sum_kept}
use Rattle.area_swap.specs.declared.answers.Seen.{Seen}
use Rattle.area_swap.specs.declared.board.View.{View}
use Rattle.area_swap.specs.Views.{now_of, IsUpTo}
use Rattle.area_swap.specs.Rule.{Ruled, IsLawfulView, Moment, ShowsDesk, ShowsWords, actor_of, right_of, share_of}
use Rattle.area_swap.proofs.Packing.{up_to_then}

bool_cases : (P : Type 0) (b : Bool) → (b ≡ true → P) → (b ≡ false → P) → P
bool_cases P true on off = on refl
bool_cases P false on off = off refl

-- the one seat that has the desk shows it
pub has_desk_of : (views : List View) (state : DeskState) (points : List ℕ) (id : ℕ) (v : View) → ShowsDesk views state points
    → get_elem? views id ≡ some v → v.has_desk ≡ true → (v.desk ≡ state) × (v.points ≡ points)
has_desk_of views state points id v h at has =
    let there : id ≡ h.seat = h.alone id v at has in
    let same : v ≡ h.view =
    some-injective v h.view (sym at ∙ ap (λ (i : ℕ). get_elem? views i) there ∙ h.sits) in
    (ap (λ (u : View). u.desk) same ∙ h.same_state, ap (λ (u : View). u.points) same ∙ h.same_points)

-- a view changes, and keeps the desk if it has it
pub desk_after : (views : List View) (state next : DeskState) (points later : List ℕ) (id : ℕ) (v w : View)
    → ShowsDesk views state points → get_elem? views id ≡ some v → w.has_desk ≡ v.has_desk
    → (v.has_desk ≡ true → (w.desk ≡ next) × (w.points ≡ later))
    → (v.has_desk ≡ false → (state ≡ next) × (points ≡ later))
    → ShowsDesk (set views id w) next later
desk_after views state next points later id v w h at keeps with without =
    elim (cases_eq id h.seat) [
      | inl e ↦
          let same : v ≡ h.view = some-injective v h.view (sym at ∙ ap (λ (i : ℕ). get_elem? views i) e ∙ h.sits) in
          let has : v.has_desk ≡ true = ap (λ (u : View). u.has_desk) same ∙ h.has in
          record {
            seat = h.seat;
            view = w;
            sits = ap (λ (i : ℕ). get_elem? (set views id w) i) (sym e) ∙ set_here views id w (at_there views id v at);
            has = keeps ∙ has;
            alone = alone;
            same_state = (with has).0;
            same_points = (with has).1;
          }
      | inr n ↦
          let apart : h.seat ≢ id = λ e. n (sym e) in
          let lacks : v.has_desk ≡ false =
          bool_cases (v.has_desk ≡ false) v.has_desk (λ t. absurd (n (h.alone id v at t))) (λ f. f) in
          record {
            seat = h.seat;
            view = h.view;
            sits = at_set_else views id h.seat w h.view apart h.sits;
            has = h.has;
            alone = alone;
            same_state = h.same_state ∙ (without lacks).0;
            same_points = h.same_points ∙ (without lacks).1;
          }
    ]
  where
    alone : (i : ℕ) (u : View) → get_elem? (set views id w) i ≡ some u → u.has_desk ≡ true → i ≡ h.seat
    alone i u e t =
        elim (at_set views id i w u e) [
          | inl k ↦ k.0 ∙ h.alone id v at (sym keeps ∙ ap (λ (z : View). z.has_desk) k.1 ∙ t)
          | inr k ↦ h.alone i u k.1 t
        ]

-- what no step of a seat changes: its share, and its part in the right to draw
abbrev pub hand_of : View → ℕ × ℕ
hand_of v = (v.share, v.right)

-- what held of a view holds of it later
pub fits_later : (p : Tables) (now next : Seen) (v : View) → IsUpTo now next → IsLawfulView p now v → IsLawfulView p next v
fits_later p now next v l f =
    record { same_plan = f.same_plan; unshared = f.unshared; rightless = f.rightless; undrawn = f.undrawn; seen = up_to_then v.seen now next f.seen l; prior = f.prior }

module _ (p : Tables) (s : State (Unit {0}) View) (r : Ruled p s) (id : ℕ) (v : View) (at : get_elem? s.views id ≡ some v) where
  -- the seat is an actor
  pub actor_at : IsActor r.core id v.actor
  actor_at =
      let P : List Actor → Type 0 = λ l. get_elem? l id ≡ some v.actor in
      subst P r.actors (at_map actor_of s.views id v at)

  pub same_actors : set r.core.actors id v.actor ≡ r.core.actors
  same_actors = set_again r.core.actors id v.actor actor_at

  pub shows_desk : v.has_desk ≡ true → (v.desk ≡ r.core.desk) × (v.points ≡ r.core.points)
  shows_desk has = has_desk_of s.views r.core.desk r.core.points id v r.desk at has

  -- a load changes no word
  pub same_words : (i : ℕ) → ShowsWords (set s.words i (slice_index s.words i)) r.core
  same_words i = let P : List ℕ → Type 0 = λ ws. ShowsWords ws r.core in subst P (sym (set-get_or s.words i 0)) r.words

  pub ruled_as : v.plan ≡ p → Ruled v.plan s
  ruled_as same = let P : Tables → Type 0 = λ q. Ruled q s in subst P (sym same) r

  pub fits : IsLawfulView p (now_of r.core) v
  fits = r.each id v at

  -- the seat has a new view, one word is written, and the machine's state is another
  pub seat_step : (i x : ℕ) (w : View) (c : CoreState) → Sound c → c.plan ≡ r.core.plan → ShowsWords (set s.words i x) c
      → set r.core.actors id w.actor ≡ c.actors → w.has_desk ≡ v.has_desk
      → (v.has_desk ≡ true → (w.desk ≡ c.desk) × (w.points ≡ c.points))
      → (v.has_desk ≡ false → (r.core.desk ≡ c.desk) × (r.core.points ≡ c.points))
      → IsUpTo (now_of r.core) (now_of c) → hand_of w ≡ hand_of v → IsLawfulView p (now_of c) w
      → Ruled p (record { words = set s.words i x; homes = s.homes; views = set s.views id w })
  seat_step i x w c sound plan words actors keeps with without later hand fit =
      record {
        core = c;
        sound = sound;
        same_plan = plan ∙ r.same_plan;
        words = words;
        actors = map-set actor_of s.views id w ∙ ap (λ (l : List Actor). set l id w.actor) r.actors ∙ actors;
        desk = desk_after s.views r.core.desk c.desk r.core.points c.points id v w r.desk at keeps with without;
        shares = sum_kept share_of s.views id v w at (ap (λ (h : ℕ × ℕ). h.0) hand) ∙ r.shares;
        rights = sum_kept right_of s.views id v w at (ap (λ (h : ℕ × ℕ). h.1) hand) ∙ r.rights;
        each = each;
      }
    where
      each : (j : ℕ) (u : View) → get_elem? (set s.views id w) j ≡ some u → IsLawfulView p (now_of c) u
      each j u e =
          elim (at_set s.views id j w u e) [
            | inl t ↦ let P : View → Type 0 = λ z. IsLawfulView p (now_of c) z in subst P t.1 fit
            | inr t ↦ fits_later p (now_of r.core) (now_of c) u later (r.each j u t.1)
          ]

  -- the seat after it has a moment of its own
  pub moment_after : (i x : ℕ) (w : View) → w.plan ≡ p
      → Ruled p (record { words = set s.words i x; homes = s.homes; views = set s.views id w }) → Moment w
  moment_after i x w same h =
      let P : Tables → Type 0 = λ q. Ruled q (record { words = set s.words i x; homes = s.homes; views = set s.views id w }) in
      record {
        board = record { words = set s.words i x; homes = s.homes; views = set s.views id w };
        ruled = subst P (sym same) h;
        seat = id;
        sits = set_here s.views id w (at_there s.views id v at);
      }
