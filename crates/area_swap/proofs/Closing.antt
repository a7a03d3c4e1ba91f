-- What the last reading says of the draws and points.
use Rattle.std.proofs.Common.{◌≡◌, ℕ, ◌+◌, true, List, ◌++◌, subst, sym, refl, ap, ◌∙◌, arith}
use Rattle.std.proofs.lemmas.List.{append-nil}
use Rattle.std.proofs.lemmas.List.Elements.{All-weaker}
use Rattle.swap_core.specs.Plans.{Tables, IsPlan}
use Rattle.swap_core.specs.Points.{in_force, AreInWindows}
use Rattle.swap_core.specs.States.{newcomer}
use Rattle.swap_core.specs.declared.actors.Actor.{Actor}
use Rattle.swap_core.specs.Sound.{Sound, IsDrawRight}
use Rattle.swap_core.proofs.Laws.{few_records}
use Rattle.area_swap.specs.declared.answers.Seen.{Seen}
use Rattle.area_swap.specs.declared.board.View.{View}
use Rattle.area_swap.specs.Views.{now_of, unpacked, with_desk_of}
use Rattle.area_swap.specs.SeatSteps.{Stepped, Seated, Glanced}
use Rattle.area_swap.specs.Values.{IsDesk}
use Rattle.area_swap.specs.Rule.{Ruled, Sees}
use Rattle.area_swap.specs.Histories.{HistoryValue, IsHistory, AreDrawn}
use Rattle.area_swap.proofs.Packing.{same_packed}
use Rattle.area_swap.proofs.Keeping.{actor_at, shows_desk}

abbrev pub history : Tables → List ℕ → ℕ → ℕ → HistoryValue
history plan points records reads = record { plan = plan; points = points; records = records; reads = reads }

module _ (v : View) (s : Seen) (sees : Sees v s) (whole : v.share ≡ 65536) (has : v.has_desk ≡ true) (reads : ℕ) where
  ruled : Ruled v.plan sees.moment.board
  ruled = sees.moment.ruled

  same_now : now_of ruled.core ≡ s
  unfolding ruled
  same_now =
      same_packed (now_of sees.moment.ruled.core) s (sym sees.moment.ruled.words.first ∙ sees.word)
      (omega (arith, few_records sees.moment.ruled.core sees.moment.ruled.sound)) (omega (arith, sees.small))

  points_are : v.points ≡ sees.moment.ruled.core.points
  points_are = (shows_desk v.plan sees.moment.board sees.moment.ruled sees.moment.seat v sees.moment.sits has).1

  records_are : sees.moment.ruled.core.records ≡ s.records
  unfolding ruled
  records_are = ap (λ (t : Seen). t.records) same_now

  in_force_too : (d : ℕ × ℕ) → IsDrawRight sees.moment.ruled.core d → d.1 ≡ in_force v.points d.0
  in_force_too d right = right.1 ∙ ap (λ (l : List ℕ). in_force l d.0) (sym points_are)

  drawn_so : AreDrawn (history v.plan v.points s.records reads) v.actor.draws
  drawn_so =
      record {
        all = sees.all_drawn whole;
        each_once = sees.each_once whole;
        under = All-weaker (IsDrawRight sees.moment.ruled.core) (λ (d : ℕ × ℕ). d.1 ≡ in_force v.points d.0) in_force_too v.actor.draws
            (sees.moment.ruled.sound.under sees.moment.seat v.actor (actor_at v.plan sees.moment.board sees.moment.ruled sees.moment.seat v sees.moment.sits));
      }

  history_so : IsHistory (history v.plan v.points s.records reads)
  history_so =
      let sound : Sound sees.moment.ruled.core = sees.moment.ruled.sound in
      let P : Tables → Type 0 = λ q. IsPlan q in
      let InPlan : Tables → Type 0 = λ q. AreInWindows q.windows sees.moment.ruled.core.points sees.moment.ruled.core.records in
      let Points : List ℕ → Type 0 = λ l. AreInWindows v.plan.windows l sees.moment.ruled.core.records in
      let Records : ℕ → Type 0 = λ n. AreInWindows v.plan.windows v.points n in
      record {
        planned = subst P sees.moment.ruled.same_plan sound.planned;
        few = omega (arith, sees.pointed has, sees.there);
        placed = subst Records records_are (subst Points (sym points_are) (subst InPlan sees.moment.ruled.same_plan sound.placed));
        draws = v.actor.draws;
        drawn = drawn_so;
      }

  same_history : (plan : Tables) (points : List ℕ) (records : ℕ) → v.plan ≡ plan → v.points ≡ points → s.records ≡ records
      → history v.plan v.points s.records reads ≡ history plan points records reads
  same_history plan points records a b e = λ i. history (a i) (b i) (e i) reads

  pub closed_drawn : (plan : Tables) (points : List ℕ) (records : ℕ) (draws : List (ℕ × ℕ)) → v.plan ≡ plan → v.points ≡ points → s.records ≡ records
      → v.actor.draws ≡ draws → AreDrawn (history plan points records reads) draws
  closed_drawn plan points records draws a b e d =
      let P : HistoryValue → Type 0 = λ h. AreDrawn h v.actor.draws in
      let Q : List (ℕ × ℕ) → Type 0 = λ l. AreDrawn (history plan points records reads) l in
      subst Q d (subst P (same_history plan points records a b e) drawn_so)

  pub closed_history : (plan : Tables) (points : List ℕ) (records : ℕ) → v.plan ≡ plan → v.points ≡ points → s.records ≡ records
      → IsHistory (history plan points records reads)
  closed_history plan points records a b e =
      let P : HistoryValue → Type 0 = λ h. IsHistory h in
      subst P (same_history plan points records a b e) history_so

module _ (seat desk : View) where
  joined_draws : desk.actor ≡ newcomer → (with_desk_of seat desk).actor.draws ≡ seat.actor.draws
  joined_draws new = ap (λ (x : Actor). seat.actor.draws ++ x.draws) new ∙ append-nil seat.actor.draws

  joined_share : desk.share ≡ 0 → seat.share ≡ 65536 → (with_desk_of seat desk).share ≡ 65536
  joined_share no_share whole = omega arith

-- the views of the last seat: joined with the desk's, and after the last reading
module _ (m0 d : Seated) {st : Stepped} {m1 m2 : Seated} {n : ℕ} (joined : m1 ≡ (with_desk_of m0.0 d.0, m0.1)) (k : Glanced st m1 n m2) (s : Seen) (es : s ≡ unpacked n) (desk : IsDesk d.0) (whole : m0.0.share ≡ 65536) where
  last_sees : Sees (with_desk_of m0.0 d.0) s
  last_sees =
      let P : Seated → Type 0 = λ m. Sees m.0 s in
      let Q : Seen → Type 0 = λ t. Sees m1.0 t in
      subst P joined (subst Q (sym es) k.sees)

  pub last_reads : m2.0.reads ≡ m0.0.reads
  last_reads =
      let none : m0.0.reads + d.0.reads ≡ m0.0.reads = omega (arith, desk.no_reads) in
      ap (λ (m : Seated). m.0.reads) k.after ∙ ap (λ (m : Seated). m.0.reads) joined ∙ none

  pub last_drawn : (reads : ℕ) (plan : Tables) (points : List ℕ) (draws : List (ℕ × ℕ)) → m0.0.plan ≡ plan → d.0.points ≡ points
      → m0.0.actor.draws ≡ draws → AreDrawn (history plan points s.records reads) draws
  last_drawn reads plan points draws a b e =
      closed_drawn (with_desk_of m0.0 d.0) s last_sees (joined_share m0.0 d.0 desk.unshared whole) refl reads plan points s.records draws a b refl
      (joined_draws m0.0 d.0 desk.idle ∙ e)

  pub last_history : (reads : ℕ) (plan : Tables) (points : List ℕ) → m0.0.plan ≡ plan → d.0.points ≡ points
      → IsHistory (history plan points s.records reads)
  last_history reads plan points a b =
      closed_history (with_desk_of m0.0 d.0) s last_sees (joined_share m0.0 d.0 desk.unshared whole) refl reads plan points s.records a b refl
