-- How what a worker's calls leave composes.
use Rattle.std.proofs.Common.{◌≡◌, ℕ, ◌+◌, ◌-◌, ◌<◌, ◌≤◌, List, [], ◌∷◌, ◌++◌, All, length, map, get_or, ap, subst, sym, refl, ◌∙◌, arith, length-append}
use Rattle.std.proofs.lemmas.List.{append-nil, append_assoc, map-append, map_push, length-map, get_or-append-add}
use Rattle.std.proofs.lemmas.List.Elements.{All-nil, All-push, All-append}
use Rattle.std.proofs.lemmas.List.FromFn.{map-range_with_len_more, length-map-range_with_len, get_or-map-range_with_len}
use Rattle.std.proofs.lemmas.List.Sums.{sum_by-append}
use Rattle.ip_codec.specs.declared.items.Item.{Item}
use Rattle.swap_core.specs.Plans.{Tables, limit}
use Rattle.swap_core.specs.States.{consecutive}
use Rattle.area_swap.specs.declared.answers.Seen.{Seen}
use Rattle.area_swap.specs.declared.board.View.{View}
use Rattle.area_swap.proofs.ReadLemmas.{reads_nothing, reads_on}
use Rattle.area_swap.specs.Reading.{OnlyReads}
use Rattle.area_swap.specs.Rule.{IsDrawnBy}
use Rattle.area_swap.specs.Values.{AreasValue, SeatValue, IsIdle, IsOf}
use Rattle.area_swap.specs.Views.{IsUpTo, held_version}
use Rattle.worker_gate.specs.declared.outcomes.Outcome.{Outcome}
use Rattle.worker_gate.specs.declared.outcomes.Stop.{Stop}
use Rattle.worker_gate.specs.declared.outcomes.Stop.TheVariants as stop
use Rattle.worker_gate.specs.declared.worker.Worker.{Worker}
use Rattle.worker_gate.specs.Outcomes.{draw_of, Ascends, IsJudged, asking}
use Rattle.worker_gate.specs.Gathering.{IsOfRound}
use Rattle.worker_gate.specs.Serving.{CanServe, HasServed, IsPutDown, ArePutDown, IsStopped, HasEnded, MustReach}
use Rattle.worker_gate.specs.Turns.{DrawsNothing, HasTakenRun}

-- Numbers that ascend.

ascends_below : (low mid high : ℕ) (news : List Outcome) → low ≤ mid → Ascends mid news high → Ascends low news high
ascends_below low mid high [] less h = let k : mid ≤ high = h in let m : low ≤ high = omega (arith, less, k) in m
ascends_below low mid high (o ∷ os) less h =
    let k : mid ≤ o.number = h.0 in
    let m : low ≤ o.number = omega (arith, less, k) in (m, h.1)

pub ascends_on : (news more : List Outcome) (low mid high : ℕ) → Ascends low news mid → Ascends mid more high → Ascends low (news ++ more) high
ascends_on [] more low mid high h k = ascends_below low mid high more h k
ascends_on (o ∷ os) more low mid high h k = (h.0, ascends_on os more (o.number + 1) mid high h.1 k)

one_ascends : (number : ℕ) (o : Outcome) → o.number ≡ number → Ascends number (o ∷ []) (number + 1)
one_ascends number o same =
    let first : number ≤ o.number = omega (arith, same) in
    let last : o.number + 1 ≤ number + 1 = omega (arith, same) in (first, last)

pub asking_on : (items : List Item) (start : ℕ) (xs ys : List (ℕ × ℕ)) → asking items start (xs ++ ys) ≡ asking items start xs + asking items start ys
asking_on items start xs ys = sum_by-append _ xs ys

-- Readings.

pub upto_same : (s : Seen) → IsUpTo s s
upto_same s = record { version = omega arith; records = omega arith }

pub upto_on : (s t u : Seen) → IsUpTo s t → IsUpTo t u → IsUpTo s u
upto_on s t u h k = record { version = omega (arith, h.version, k.version); records = omega (arith, h.records, k.records) }

-- The records of one draw.

pub put_none : (p : Tables) (items : List Item) (start first version : ℕ) (v : Worker) → ArePutDown p items start first 0 version v v
put_none p items start first version v =
    let same : first ≤ first + 0 = omega arith in
    let unasked : asking items start [] ≡ 0 = refl in
    record {
      news = [];
      outcomes = sym (append-nil v.outcomes.items);
      draws = refl;
      ascending = same;
      judged = All-nil (IsJudged p items start);
      same_room = refl;
      same_next = refl;
      only_reads = reads_nothing v.seat;
      reads = omega (arith, unasked);
    }

pub put_more : (p : Tables) (items : List Item) (start first count version : ℕ) (v w x : Worker) → ArePutDown p items start first count version v w
    → IsPutDown p items start (first + count) version w x → ArePutDown p items start first (count + 1) version v x
put_more p items start first count version v w x h k =
    let o : Outcome = record { number = first + count; version = version; verdict = k.verdict } in
    let d : ℕ × ℕ = (first + count, version) in
    let drawn : map draw_of (h.news ++ o ∷ []) ≡ map draw_of h.news ++ d ∷ [] = map_push draw_of h.news o in
    let asked : asking items start (map draw_of (h.news ++ o ∷ [])) ≡ asking items start (map draw_of h.news) + asking items start (d ∷ []) =
    ap (asking items start) drawn ∙ asking_on items start (map draw_of h.news) (d ∷ []) in
    let last : Ascends (first + count) (o ∷ []) (first + count + 1) = one_ascends (first + count) o refl in
    let sum : first + count + 1 ≡ first + (count + 1) = omega arith in
    let P : ℕ → Type 0 = λ n. Ascends (first + count) (o ∷ []) n in
    record {
      news = h.news ++ o ∷ [];
      outcomes = k.outcomes ∙ ap (λ (l : List Outcome). l ++ o ∷ []) h.outcomes ∙ append_assoc v.outcomes.items h.news (o ∷ []);
      draws = drawn ∙ ap (λ (l : List (ℕ × ℕ)). l ++ d ∷ []) h.draws ∙ sym (map-range_with_len_more (λ (n : ℕ). (n, version)) first count (first + count) refl);
      ascending = ascends_on h.news (o ∷ []) first (first + count) (first + (count + 1)) h.ascending (subst P sum last);
      judged = All-push (IsJudged p items start) h.news o h.judged k.judged;
      same_room = k.same_room ∙ h.same_room;
      same_next = k.same_next ∙ h.same_next;
      only_reads = reads_on v.seat w.seat x.seat h.only_reads k.only_reads;
      reads = omega (arith, h.reads, k.reads, asked);
    }

put_length : (p : Tables) (items : List Item) (start first count version : ℕ) (v w : Worker) → ArePutDown p items start first count version v w
    → length w.outcomes.items ≡ length v.outcomes.items + count
put_length p items start first count version v w h =
    let many : length h.news ≡ count =
    sym (length-map h.news draw_of) ∙ ap (λ (l : List (ℕ × ℕ)). length l) h.draws ∙ length-map-range_with_len (λ (n : ℕ). (n, version)) first count in
    ap (λ (l : List Outcome). length l) h.outcomes ∙ length-append v.outcomes.items h.news ∙ ap (λ (n : ℕ). length v.outcomes.items + n) many

-- What a worker served, call by call.

pub served_none : (p : Tables) (items : List Item) (start : ℕ) (v : Worker) → HasServed p items start v v
served_none p items start v =
    let same : v.next ≤ v.next = omega arith in
    let unasked : asking items start [] ≡ 0 = refl in
    record {
      news = [];
      outcomes = sym (append-nil v.outcomes.items);
      draws = sym (append-nil v.seat.known.actor.draws);
      ascending = same;
      judged = All-nil (IsJudged p items start);
      same_room = refl;
      same_share = refl;
      later = upto_same v.seat.known.seen;
      reads = omega (arith, unasked);
    }

pub served_on : (p : Tables) (items : List Item) (start : ℕ) (u v w : Worker) → HasServed p items start u v → HasServed p items start v w
    → HasServed p items start u w
served_on p items start u v w h k =
    let drawn : map draw_of (h.news ++ k.news) ≡ map draw_of h.news ++ map draw_of k.news = map-append draw_of h.news k.news in
    let asked : asking items start (map draw_of (h.news ++ k.news)) ≡ asking items start (map draw_of h.news) + asking items start (map draw_of k.news) =
    ap (asking items start) drawn ∙ asking_on items start (map draw_of h.news) (map draw_of k.news) in
    record {
      news = h.news ++ k.news;
      outcomes = k.outcomes ∙ ap (λ (l : List Outcome). l ++ k.news) h.outcomes ∙ append_assoc u.outcomes.items h.news k.news;
      draws =
          k.draws ∙ ap (λ (l : List (ℕ × ℕ)). l ++ map draw_of k.news) h.draws
          ∙ append_assoc u.seat.known.actor.draws (map draw_of h.news) (map draw_of k.news)
          ∙ ap (λ (l : List (ℕ × ℕ)). u.seat.known.actor.draws ++ l) (sym drawn);
      ascending = ascends_on h.news k.news u.next v.next w.next h.ascending k.ascending;
      judged = All-append (IsJudged p items start) h.news k.news h.judged k.judged;
      same_room = k.same_room ∙ h.same_room;
      same_share = k.same_share ∙ h.same_share;
      later = upto_on u.seat.known.seen v.seat.known.seen w.seat.known.seen h.later k.later;
      reads = omega (arith, h.reads, k.reads, asked);
    }

-- two steps by which nothing was drawn
pub nothing_on : (u v w : View) → DrawsNothing u v → DrawsNothing v w → DrawsNothing u w
nothing_on u v w m n =
    record {
      draws = n.draws ∙ m.draws;
      later = upto_on u.seen v.seen w.seen m.later n.later;
      same_reads = n.same_reads ∙ m.same_reads;
      same_share = n.same_share ∙ m.same_share;
      same_right = n.same_right ∙ m.same_right;
    }

-- a step of the seat by which nothing was drawn
pub nothing_served : (p : Tables) (items : List Item) (start : ℕ) (v : Worker) (s : SeatValue) → DrawsNothing v.seat.known s.known
    → HasServed p items start v (record v { seat = s })
nothing_served p items start v s n =
    let same : v.next ≤ v.next = omega arith in
    let unasked : asking items start [] ≡ 0 = refl in
    record {
      news = [];
      outcomes = sym (append-nil v.outcomes.items);
      draws = n.draws ∙ sym (append-nil v.seat.known.actor.draws);
      ascending = same;
      judged = All-nil (IsJudged p items start);
      same_room = refl;
      same_share = n.same_share;
      later = n.later;
      reads = omega (arith, unasked, n.same_reads);
    }

pub nothing_work : (areas : AreasValue) (start end : ℕ) (v : Worker) (s : SeatValue) → IsOf areas s → DrawsNothing v.seat.known s.known
    → CanServe areas start end v → CanServe areas start end (record v { seat = s })
nothing_work areas start end v s its n h =
    record {
      its_areas = its;
      may_draw = (let P : ℕ → Type 0 = λ k. 0 < k in subst P (sym n.same_right) h.may_draw);
      reached = λ now later drawn.
          h.reached now (upto_on v.seat.known.seen s.known.seen now n.later later)
          (let P : List (ℕ × ℕ) → Type 0 = λ l. All (IsDrawnBy now) l in subst P n.draws drawn);
      from = h.from;
      until = h.until;
      room = h.room;
    }

-- The records of one draw, served.

pub next_is_below : (areas : AreasValue) (start end first count : ℕ) (v : Worker) (s : View) → CanServe areas start end v
    → HasTakenRun end first count v.seat.known s → v.next ≤ first
next_is_below areas start end first count v s h t =
    let reached : v.next ≤ s.seen.records = h.reached s.seen t.later t.drawn in omega (arith, reached, t.is_next)

last_drawn : (front : List (ℕ × ℕ)) (first count version : ℕ) (now : Seen) → 1 ≤ count
    → All (IsDrawnBy now) (front ++ consecutive first count version) → first + count ≤ now.records
last_drawn front first count version now some_one all =
    let x : ℕ × ℕ = (first + (count - 1), version) in
    let run : List (ℕ × ℕ) = consecutive first count version in
    let inside : length front + (count - 1) < length (front ++ run) =
    omega (arith, some_one, length-append front run, length-map-range_with_len {X = ℕ × ℕ} (λ (n : ℕ). (n, version)) first count) in
    let here : get_or (front ++ run) (length front + (count - 1)) x ≡ x =
    get_or-append-add front run (count - 1) x
    ∙ get_or-map-range_with_len (λ (n : ℕ). (n, version)) first count (count - 1) (first + (count - 1)) x (omega (arith, some_one)) refl in
    let drawn : IsDrawnBy now x = subst (IsDrawnBy now) here (all (length front + (count - 1)) x inside) in
    let below : first + (count - 1) < now.records = drawn.0 in omega (arith, below, some_one)

pub run_served : (p : Tables) (items : List Item) (areas : AreasValue) (start end first count version : ℕ) (v w : Worker) (s : SeatValue)
    → CanServe areas start end v → HasTakenRun end first count v.seat.known s.known → s.known.share ≡ v.seat.known.share
    → held_version v.seat.known ≡ version → ArePutDown p items start first count version (record v { seat = s }) w
    → HasServed p items start v (record w { next = first + count })
run_served p items areas start end first count version v w s h t share held k =
    let D : List (ℕ × ℕ) = v.seat.known.actor.draws in
    record {
      news = k.news;
      outcomes = k.outcomes;
      draws =
          ap (λ (x : SeatValue). x.known.actor.draws) k.only_reads.rest ∙ t.draws
          ∙ ap (λ (n : ℕ). D ++ consecutive first count n) held
          ∙ ap (λ (l : List (ℕ × ℕ)). D ++ l) (sym k.draws);
      ascending = ascends_below v.next first (first + count) k.news (next_is_below areas start end first count v s.known h t) k.ascending;
      judged = k.judged;
      same_room = k.same_room;
      same_share = ap (λ (x : SeatValue). x.known.share) k.only_reads.rest ∙ share;
      later = (let P : SeatValue → Type 0 = λ x. IsUpTo v.seat.known.seen x.known.seen in subst P (sym k.only_reads.rest) t.later);
      reads = omega (arith, k.reads, t.same_reads);
    }

-- The same behind what was served before.
pub run_on : (p : Tables) (items : List Item) (areas : AreasValue) (start end first count version : ℕ) (u v w : Worker) (s : SeatValue)
    → HasServed p items start u v → CanServe areas start end v → HasTakenRun end first count v.seat.known s.known
    → s.known.share ≡ v.seat.known.share → held_version v.seat.known ≡ version → ArePutDown p items start first count version (record v { seat = s }) w
    → HasServed p items start u (record w { next = first + count })
run_on p items areas start end first count version u v w s before h t share held k =
    served_on p items start u v (record w { next = first + count }) before
    (run_served p items areas start end first count version v w s h t share held k)

pub run_work : (p : Tables) (items : List Item) (areas : AreasValue) (start end first count version : ℕ) (v w : Worker) (s : SeatValue)
    → CanServe areas start end v → HasTakenRun end first count v.seat.known s.known → IsOf areas w.seat
    → ArePutDown p items start first count version (record v { seat = s }) w → CanServe areas start end (record w { next = first + count })
run_work p items areas start end first count version v w s h t its k =
    let D : List (ℕ × ℕ) = v.seat.known.actor.draws in
    let below : v.next ≤ first = next_is_below areas start end first count v s.known h t in
    let draws : w.seat.known.actor.draws ≡ D ++ consecutive first count (held_version v.seat.known) =
    ap (λ (x : SeatValue). x.known.actor.draws) k.only_reads.rest ∙ t.draws in
    let many : length w.outcomes.items ≡ length v.outcomes.items + count = put_length p items start first count version (record v { seat = s }) w k in
    record {
      its_areas = its;
      may_draw =
          (let P : ℕ → Type 0 = λ n. 0 < n in
          subst P (sym (ap (λ (x : SeatValue). x.known.right) k.only_reads.rest ∙ t.same_right)) h.may_draw);
      reached = λ now later drawn.
          last_drawn D first count (held_version v.seat.known) now t.some_one
          (let P : List (ℕ × ℕ) → Type 0 = λ l. All (IsDrawnBy now) l in subst P draws drawn);
      from = omega (arith, h.from, below);
      until = t.below_end;
      room = omega (arith, h.room, many, below, t.below_end, k.same_room);
    }

-- Where the version word was read no more, what a worker's end says stands.

stopped_still : (why : Stop) (end : ℕ) (v w : View) → w.seen ≡ v.seen → w.plan ≡ v.plan → IsStopped why end v → IsStopped why end w
stopped_still stop.End end v w seen plan h = let P : Seen → Type 0 = λ x. end ≤ x.records in subst P (sym seen) h
stopped_still (stop.Hold most) end v w seen plan h =
    let P : Seen → Type 0 = λ x. (limit v.plan x.version ≡ most) × (x.records ≡ most) × (most < end) in
    let Q : Tables → Type 0 = λ q. (limit q w.seen.version ≡ most) × (w.seen.records ≡ most) × (most < end) in
    subst Q (sym plan) (subst P (sym seen) h)

pub ended_still : (why : Stop) (end : ℕ) (v w : View) → w.seen ≡ v.seen → w.actor.draws ≡ v.actor.draws → w.plan ≡ v.plan → HasEnded why end v
    → HasEnded why end w
ended_still why end v w seen draws plan h =
    record {
      stopped = stopped_still why end v w seen plan h.stopped;
      drawn =
          (let P : Seen → Type 0 = λ x. All (IsDrawnBy x) v.actor.draws in
          let Q : List (ℕ × ℕ) → Type 0 = λ l. All (IsDrawnBy w.seen) l in subst Q (sym draws) (subst P (sym seen) h.drawn));
    }

-- Words of the held table were read, and nothing else changed.

pub read_areas : (areas : AreasValue) (s t : SeatValue) → OnlyReads s t → IsOf areas s → IsOf areas t
read_areas areas s t only its =
    record {
      same_areas = ap (λ (x : SeatValue). x.table_id) only.rest ∙ its.same_areas;
      same_plan = ap (λ (x : SeatValue). x.known.plan) only.rest ∙ its.same_plan;
    }

pub read_work : (areas : AreasValue) (start end : ℕ) (v : Worker) (s : SeatValue) → OnlyReads v.seat s → CanServe areas start end v
    → CanServe areas start end (record v { seat = s })
read_work areas start end v s only h =
    let P : SeatValue → Type 0 = λ x. MustReach x.known v.next in
    record {
      its_areas = read_areas areas v.seat s only h.its_areas;
      may_draw = (let Q : SeatValue → Type 0 = λ x. 0 < x.known.right in subst Q (sym only.rest) h.may_draw);
      reached = subst P (sym only.rest) h.reached;
      from = h.from;
      until = h.until;
      room = h.room;
    }

pub read_served : (p : Tables) (items : List Item) (start : ℕ) (v : Worker) (s : SeatValue) → OnlyReads v.seat s
    → HasServed p items start v (record v { seat = s })
read_served p items start v s only =
    let same : v.next ≤ v.next = omega arith in
    let unasked : asking items start [] ≡ 0 = refl in
    let P : SeatValue → Type 0 = λ x. IsUpTo v.seat.known.seen x.known.seen in
    record {
      news = [];
      outcomes = sym (append-nil v.outcomes.items);
      draws = ap (λ (x : SeatValue). x.known.actor.draws) only.rest ∙ sym (append-nil v.seat.known.actor.draws);
      ascending = same;
      judged = All-nil (IsJudged p items start);
      same_room = refl;
      same_share = ap (λ (x : SeatValue). x.known.share) only.rest;
      later = subst P (sym only.rest) (upto_same v.seat.known.seen);
      reads = omega (arith, unasked, only.rises);
    }

-- One claim: it is tried, the worker serves under it, and it is given up.
pub claim_served : (p : Tables) (items : List Item) (start : ℕ) (u v w : Worker) (s t : SeatValue) → HasServed p items start u v
    → DrawsNothing v.seat.known s.known → HasServed p items start (record v { seat = s }) w → DrawsNothing w.seat.known t.known
    → HasServed p items start u (record w { seat = t })
claim_served p items start u v w s t h n k m =
    let a : HasServed p items start (record v { seat = s }) (record w { seat = t }) =
    served_on p items start (record v { seat = s }) w (record w { seat = t }) k (nothing_served p items start w t m) in
    let b : HasServed p items start v (record w { seat = t }) =
    served_on p items start v (record v { seat = s }) (record w { seat = t }) (nothing_served p items start v s n) a in
    served_on p items start u v (record w { seat = t }) h b

-- A pass of a round.
pub of_round_on : (areas : AreasValue) (items : List Item) (start end : ℕ) (v w : Worker) → IsOfRound areas items start end v
    → HasServed areas.plan items start v w → CanServe areas start end w → IsIdle w.seat.known → IsOfRound areas items start end w
of_round_on areas items start end v w h k work idle =
    let drawn : map draw_of (v.outcomes.items ++ k.news) ≡ map draw_of v.outcomes.items ++ map draw_of k.news =
    map-append draw_of v.outcomes.items k.news in
    let asked : asking items start w.seat.known.actor.draws ≡ asking items start v.seat.known.actor.draws + asking items start (map draw_of k.news) =
    ap (asking items start) k.draws ∙ asking_on items start v.seat.known.actor.draws (map draw_of k.news) in
    let P : List Outcome → Type 0 = λ l. Ascends start l w.next in
    let Q : List Outcome → Type 0 = λ l. All (IsJudged areas.plan items start) l in
    record {
      at_hand =
          record {
            work = work;
            idle = idle;
            draws =
                k.draws ∙ ap (λ (l : List (ℕ × ℕ)). l ++ map draw_of k.news) h.at_hand.draws ∙ sym drawn
                ∙ ap (λ (l : List Outcome). map draw_of l) (sym k.outcomes);
            ascending = subst P (sym k.outcomes) (ascends_on v.outcomes.items k.news start v.next w.next h.at_hand.ascending k.ascending);
          };
      judged =
          record {
            judged = subst Q (sym k.outcomes) (All-append (IsJudged areas.plan items start) v.outcomes.items k.news h.judged.judged k.judged);
            reads = omega (arith, h.judged.reads, k.reads, asked);
          };
      compiled = h.compiled;
    }

pub put_one_length : (p : Tables) (items : List Item) (start number version : ℕ) (v w : Worker) → IsPutDown p items start number version v w
    → length w.outcomes.items ≡ length v.outcomes.items + 1
put_one_length p items start number version v w h =
    let o : Outcome = record { number = number; version = version; verdict = h.verdict } in
    ap (λ (l : List Outcome). length l) h.outcomes ∙ length-append v.outcomes.items (o ∷ [])
