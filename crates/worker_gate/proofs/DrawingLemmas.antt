-- Seats without the right to draw, and numbers that another seat draws for them.
use Rattle.std.proofs.Common.{◌≡◌, ℕ, ◌+◌, ◌-◌, ◌<◌, ◌≤◌, List, [], ◌++◌, length, ap, subst, sym, refl, ◌∙◌, arith}
use Rattle.std.proofs.lemmas.List.{append-nil}
use Rattle.swap_core.specs.Plans.{Tables, limit}
use Rattle.swap_core.specs.States.{consecutive}
use Rattle.swap_core.specs.declared.actors.ActorState.TheVariants.{Idle}
use Rattle.area_swap.specs.declared.answers.Seen.{Seen}
use Rattle.area_swap.specs.declared.board.View.{View}
use Rattle.area_swap.specs.Answers.{HasDrawn, IsAtLimit}
use Rattle.area_swap.specs.Rule.{Moment}
use Rattle.area_swap.specs.Values.{AreasValue, SeatValue, DrawsAlone, HoldsStill, IsIdle, IsOf}
use Rattle.area_swap.specs.Views.{IsUpTo, acting, held_version, lent_half, together}
use Rattle.worker_gate.specs.Drawing.{BothHold, HasDrawnHolding, HasDrawnRound, IsHeldBack}
use Rattle.worker_gate.specs.Holders.{IsFreeSeat, IsHeldSeat}
use Rattle.worker_gate.specs.Turns.{DrawsNothing, HasHeld}
use Rattle.worker_gate.proofs.Served.{nothing_on, upto_on, upto_same}

pub same_view : (v : View) → DrawsNothing v v
same_view v = record { draws = refl; later = upto_same v.seen; same_reads = refl; same_share = refl; same_right = refl }

pub lent_free : (areas : AreasValue) (s : SeatValue) (v : View) → IsOf areas s → s.known ≡ lent_half v → IsFreeSeat areas s
lent_free areas s v its e =
    record { its_areas = its; idle = ap (λ (x : View). x.actor.state) e; undrawn = ap (λ (x : View). x.actor.draws) e; no_right = ap (λ (x : View). x.right) e }

pub back_draws : (v w x : View) → x ≡ together v w → w.actor.draws ≡ [] → x.actor.draws ≡ v.actor.draws
back_draws v w x e none =
    ap (λ (y : View). y.actor.draws) e ∙ ap (λ (l : List (ℕ × ℕ)). v.actor.draws ++ l) none ∙ append-nil v.actor.draws

pub back_later : (v w x : View) → x ≡ together v w → IsUpTo v.seen x.seen
back_later v w x e =
    let P : View → Type 0 = λ y. IsUpTo v.seen y.seen in
    subst P (sym e) (record { version = omega arith; records = omega arith })

-- Both seats hold the version.
pub both_hold : (version found : ℕ) (v w drawer holder : View) → HasHeld version w holder → HasHeld found v drawer → found ≡ version
    → BothHold version v w drawer holder
both_hold version found v w drawer holder h d same =
    record {
      drawer_nothing = d.nothing;
      drawer_holds = d.holds;
      drawer_held = d.held ∙ same;
      holder_nothing = h.nothing;
      holder_holds = h.holds;
      holder_held = h.held;
      there = h.there;
    }

-- A free seat that holds a version is a held seat.
pub free_holds : (areas : AreasValue) (version : ℕ) (s t : SeatValue) (v w drawer : View) → IsFreeSeat areas s → IsOf areas t
    → BothHold version v s.known drawer t.known → IsHeldSeat areas version t
free_holds areas version s t v w drawer free its h =
    let P : Tables → Type 0 = λ p. version < length p.tables in
    record {
      its_areas = its;
      holds = h.holder_holds;
      held = h.holder_held;
      there = subst P free.its_areas.same_plan h.there;
      undrawn = h.holder_nothing.draws ∙ free.undrawn;
      no_right = h.holder_nothing.same_right ∙ free.no_right;
    }

pub free_on : (areas : AreasValue) (s t : SeatValue) → IsFreeSeat areas s → IsOf areas t → IsIdle t.known → DrawsNothing s.known t.known
    → IsFreeSeat areas t
free_on areas s t free its idle nothing = record { its_areas = its; idle = idle; undrawn = nothing.draws ∙ free.undrawn; no_right = nothing.same_right ∙ free.no_right }

-- One exchange by the only seat that may draw: the first number is `start`, since the seat has drawn all numbers below it.
pub drawn_holding : (p : Tables) (start end number count : ℕ) (v w : View) → HasDrawn p end (end - start) number count (held_version v) v w
    → DrawsAlone v → length v.actor.draws ≡ start → start < end → HasDrawnHolding p start end count v w
drawn_holding p start end number count v w h alone began less =
    let same : number ≡ start =
    sym h.is_next ∙ ap (λ (s : Seen). s.records) (sym h.same) ∙ sym (h.sees_first.drew_all alone) ∙ began in
    let P : ℕ → Type 0 = λ n. w.actor.draws ≡ v.actor.draws ++ consecutive n count (held_version v) in
    let drawn : w.actor.draws ≡ v.actor.draws ++ consecutive number count (held_version v) = ap (λ (x : View). x.actor.draws) h.after in
    record {
      draws = subst P same drawn;
      some_one = h.some_one;
      below_end = omega (arith, same, h.below_end);
      below_limit = omega (arith, same, h.below_limit);
      whole = λ top. omega (arith, same, top, less, h.many);
      in_force = h.in_force;
      later = (let Q : Seen → Type 0 = λ s. IsUpTo v.seen s in subst Q h.same h.earlier);
      same_reads = ap (λ (x : View). x.reads) h.after;
      same_share = ap (λ (x : View). x.share) h.after;
      same_right = ap (λ (x : View). x.right) h.after;
    }

-- The seat held the version, drew, and gave its claim up.
pub drawn_round : (p : Tables) (start end count version : ℕ) (u v w x : View) → DrawsNothing u v → held_version v ≡ version
    → HasDrawnHolding p start end count v w → HoldsStill v w → Moment w → x ≡ acting w Idle → DrawsNothing w x
    → HasDrawnRound p start end count version u x
drawn_round p start end count version u v w x before held row still moment after nothing =
    let P : ℕ → Type 0 = λ n. w.actor.draws ≡ v.actor.draws ++ consecutive start count n in
    let L : ℕ → Type 0 = λ n. start + count ≤ limit p n in
    let M : ℕ → Type 0 = λ n. (end ≤ limit p n) → start + count ≡ end in
    record {
      draws =
          nothing.draws ∙ subst P held row.draws ∙ ap (λ (l : List (ℕ × ℕ)). l ++ consecutive start count version) before.draws;
      some_one = row.some_one;
      below_end = row.below_end;
      below_limit = subst L held row.below_limit;
      whole = subst M held row.whole;
      holding = w;
      moment = moment;
      was_held = still.version ∙ held;
      in_force = row.in_force ∙ held;
      after = after;
      later = upto_on u.seen w.seen x.seen (upto_on u.seen v.seen w.seen before.later row.later) nothing.later;
      same_reads = nothing.same_reads ∙ row.same_reads ∙ before.same_reads;
      same_share = nothing.same_share ∙ row.same_share ∙ before.same_share;
      same_right = nothing.same_right ∙ row.same_right ∙ before.same_right;
    }

-- No exchange was tried: the version in force is at its limit, and the only seat that may draw has drawn all numbers below `start`.
pub held_back : (p : Tables) (start end records : ℕ) (v w : View) → IsAtLimit p end records (held_version v) v w → DrawsAlone v
    → length v.actor.draws ≡ start → IsHeldBack p start v w
held_back p start end records v w h alone began =
    let drawn : w.seen.records ≡ start = sym (h.sees.drew_all alone) ∙ began in
    record {
      nothing =
          record {
            draws = ap (λ (x : View). x.actor.draws) h.after;
            later = h.sees.later;
            same_reads = ap (λ (x : View). x.reads) h.after;
            same_share = ap (λ (x : View). x.share) h.after;
            same_right = ap (λ (x : View). x.right) h.after;
          };
      drawn = drawn;
      at_limit = ap (λ (n : ℕ). limit p n) h.in_force ∙ h.limit_is ∙ sym h.reached ∙ drawn;
    }

pub held_back_on : (p : Tables) (start : ℕ) (u v w x : View) → DrawsNothing u v → IsHeldBack p start v w → DrawsNothing w x → x.seen ≡ w.seen
    → IsHeldBack p start u x
held_back_on p start u v w x before h after same =
    record {
      nothing = nothing_on u w x (nothing_on u v w before h.nothing) after;
      drawn = ap (λ (s : Seen). s.records) same ∙ h.drawn;
      at_limit = ap (λ (s : Seen). limit p s.version) same ∙ h.at_limit;
    }
