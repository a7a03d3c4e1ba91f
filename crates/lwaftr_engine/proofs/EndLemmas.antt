-- How the records of a run ended.
use Rattle.lwaftr_engine.proofs.Words.{AreAllPoints, AreBefore, AreInWindows, CaptureBad, Ending, HasTaken, HistoryValue, IsBehind, IsClosed, IsOnDuty}
use Rattle.lwaftr_engine.proofs.Words.{IsSettledAt, Left, List, None, Option, Readable, Rec, Rises, Router, SettledPointsAreAll, Setup, Some, Spot, Takes}
use Rattle.lwaftr_engine.proofs.Words.{append-nil, arith, inl, inr, is_cut, state_of, sym, ℕ, ◌<◌, ◌∙◌, ◌∷◌, [], length, window, ◌+◌, ◌≤◌, ◌⊎◌}
use Rattle.lwaftr_engine.proofs.Closing.{few_points, its_planned}
use Rattle.lwaftr_engine.proofs.Steps.{none_waits}
use Rattle.capture_io.specs.declared.rounds.Ending.TheVariants as ending

-- whatever is left has some ending
abbrev pub SomeLeft : Left → Type 0
SomeLeft left = (bytes : List ℕ) (number : ℕ) → (rs : List Rec) × (ended : Option CaptureBad) × left bytes number rs ended

-- each window that opened by the last record has its point
pub points_at_end : SettledPointsAreAll → {x : Setup} {r : Router} {h : HistoryValue} → IsClosed (state_of r) h → IsSettledAt x r →
    IsOnDuty r.shift.areas.plan r.shift → AreAllPoints r.shift.areas.plan.windows r.shift.desk.known.points r.progress.number
points_at_end law {r = r} {h = h} closed at_end duty =
    let u = r.shift in
    let plan = u.areas.plan in
    let points = u.desk.known.points in
    let records = sym closed.drawn.all ∙ at_end.drawn in
    let inside : AreInWindows r.shift.areas.plan.windows r.shift.desk.known.points r.progress.number =
    rw (← closed.same_plan) (rw (← closed.points) (rw (← records) closed.history.placed)) in
    let seen = sym (at_end.settled.all_drawn duty.whole) ∙ at_end.drawn in
    let due : (length plan.tables ≤ length points + 1) ⊎ (r.progress.number < (window plan (length points + 1)).earliest) =
    rw (← seen) (none_waits plan u.desk.known u.seat.known.seen.records duty.desk_areas.same_plan at_end.settled.none_due) in
    law plan points r.progress.number (its_planned closed) (few_points closed) inside due

is_behind : (place : ℕ) (left : Left) (bytes : List ℕ) (number : ℕ) (rest : List Rec) (ended : Option CaptureBad) → left bytes number rest ended →
    ((r : Rec) (rs : List Rec) (e : Option CaptureBad) → left bytes number (r ∷ rs) e → place < r.next_at) → IsBehind place rest
is_behind place left bytes number [] ended it before = tt
is_behind place left bytes number (r ∷ rs) ended it before = before r rs ended it

-- the records that were taken, by how they stopped
abbrev pub EndsAt : List ℕ → Spot → List ℕ → List Rec → Ending → Option (List ℕ × ℕ) → Type 0
EndsAt name first bytes rs ending.End last = first.left bytes 0 rs None
EndsAt name first bytes rs (ending.Bad refusal) last = first.left bytes 0 rs (Some refusal)
EndsAt name first bytes rs ending.ReadFault last = AreBefore (first.left bytes 0) name first.at rs last

pub ends_at : {name : List ℕ} {first reader : Spot} {bytes : List ℕ} {rs : List Rec} {number : ℕ} (stop : Ending) {last : Option (List ℕ × ℕ)} →
    SomeLeft reader.left →
    HasTaken name first reader bytes rs number (Some stop) last → EndsAt name first bytes rs stop last
ends_at {rs = rs} ending.End some taken = rw (← (append-nil rs)) (taken.follows [] None taken.stopped)
ends_at {rs = rs} (ending.Bad refusal) some taken = rw (← (append-nil rs)) (taken.follows [] (Some refusal) taken.stopped)
ends_at {reader = reader} {bytes = bytes} {number = number} ending.ReadFault some taken =
    let rest = some bytes number in
    record {
      rest = rest.0;
      ending = rest.1;
      capture = taken.follows rest.0 rest.1 rest.2;
      place = taken.stopped.place;
      last_is = taken.stopped.last_is;
      in_records = omega (arith, taken.forward, taken.stopped.begun);
      reached = λ k d inside. omega (arith, taken.within k d inside, taken.stopped.begun);
      next = is_behind taken.stopped.place reader.left bytes number rest.0 rest.1 rest.2 taken.stopped.before;
    }

-- which records count
pub takes_by : (name : List ℕ) (first : Spot) (bytes : List ℕ) {rs : List Rec} (a b : Readable) (stop : Ending) →
    Rises (is_cut (Some stop)) a.lost b.lost → EndsAt name first bytes rs stop b.last → Takes name first bytes rs a b
takes_by name first bytes a b ending.End rises it = inl (rises, (None, it))
takes_by name first bytes a b (ending.Bad refusal) rises it = inl (rises, (Some refusal, it))
takes_by name first bytes a b ending.ReadFault rises it = inr (rises, it)
