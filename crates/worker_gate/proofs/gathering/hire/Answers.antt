use Rattle.std.proofs.Common.{◌≡◌, ℕ, ◌+◌, ◌-◌, ◌/◌, ◌%◌, ◌^◌, ◌<◌, ◌≤◌, List, [], ◌∷◌, ◌++◌, All, length, ap, subst, sym, ◌∙◌, arith, Some}
use Rattle.std.proofs.lemmas.List.Elements.{All-pop, All-push}
use Rattle.area_swap.specs.declared.board.View.{View}
use Rattle.area_swap.specs.Values.{IsOf, SeatValue}
use Rattle.area_swap.specs.Views.{new_half}
use Rattle.worker_gate.specs.declared.crew.Sheet.{Sheet}
use Rattle.worker_gate.specs.declared.worker.Worker.{Worker}
use Rattle.worker_gate.specs.Gathering.{HasJudged, HasRoom, IsAtHand, shares}
use Rattle.worker_gate.proofs.Hands.{one_longer}
use Rattle.worker_gate.proofs.Hired.{halved, hired_at_hand, hired_judged, shares_more, some_power, still_same}
use Rattle.worker_gate.proofs.gathering.hire.Goals as goal

pub split-part-requires-clause-even : goal.split-part-requires-clause-even
split-part-requires-clause-even c =
    let few : length c.sheets.workers.items < 16 = omega (arith, c.sheets.invariant.many, c.in-Some.ensures.cases, c.requires.few) in
    (halved c.sheets.seat.known.share (length c.sheets.workers.items) c.sheets.invariant.halves few).0

pub sheets-preserved : goal.sheets-preserved
sheets-preserved c =
    let w : Worker = c.of-worker.result in
    let own_seat : w.seat ≡ c.split-part.result = c.of-worker.ensures.seat in
    let own_view : w.seat.known ≡ new_half c.sheets.seat.known = ap (λ (x : SeatValue). x.known) own_seat ∙ c.split-part.ensures.new in
    let own_room : w.outcomes.room ≡ c.in-Some.sheet.outcomes.room =
    c.of-worker.ensures.room ∙ c.clear.ensures.room in
    let own_outcomes : w.outcomes.items ≡ [] = c.of-worker.ensures.outcomes ∙ c.clear.ensures.items in
    let I : SeatValue → Type 0 = λ x. IsOf c.args.areas.now x in
    let own_areas : IsOf c.args.areas.now w.seat = subst I (sym own_seat) c.split-part.ensures.areas.1 in
    let few : length c.sheets.workers.items < 16 = omega (arith, c.sheets.invariant.many, c.in-Some.ensures.cases, c.requires.few) in
    let half : (c.sheets.seat.known.share % 2 ≡ 0) × (c.sheets.seat.known.share / 2 ≡ 2 ^ (16 - (length c.sheets.workers.items + 1))) =
    halved c.sheets.seat.known.share (length c.sheets.workers.items) c.sheets.invariant.halves few in
    let kept : c.split-part.new.seat.known.share ≡ c.sheets.seat.known.share / 2 = ap (λ (v : View). v.share) c.split-part.ensures.kept in
    let given : w.seat.known.share ≡ c.sheets.seat.known.share / 2 = ap (λ (v : View). v.share) own_view in
    let items : c.push_reserved.new.self.items ≡ c.sheets.workers.items ++ w ∷ [] = c.push_reserved.ensures.items in
    let long : length c.push_reserved.new.self.items ≡ length c.sheets.workers.items + 1 = one_longer c.push_reserved.new.self.items c.sheets.workers.items w items in
    let parts : shares c.push_reserved.new.self.items ≡ shares c.sheets.workers.items + w.seat.known.share =
    ap shares items ∙ shares_more c.sheets.workers.items w in
    let E : Sheet → Type 0 = λ s. c.args.end - c.args.start ≤ s.outcomes.room in
    let enough : All E c.pop.new.self.items × E c.in-Some.sheet =
    All-pop E c.sheets.sheets.items c.pop.new.self.items (Some c.in-Some.sheet) c.in-Some.ensures.items c.sheets.invariant.enough in
    let some_share : 0 < c.sheets.seat.known.share / 2 =
    (let P : ℕ → Type 0 = λ n. 0 < n in subst P (sym half.1) (some_power (16 - (length c.sheets.workers.items + 1)))) in
    let may : 0 < w.seat.known.right =
    omega (arith, ap (λ (v : View). v.right) own_view, c.sheets.invariant.rights, some_share) in
    let seen : c.args.start ≤ c.sheets.seat.known.seen.records =
    omega (arith, c.requires.seen, ap (λ (v : View). v.seen.records) c.sheets.invariant.seat) in
    let room : c.args.end - c.args.start ≤ w.outcomes.room = omega (arith, enough.1, own_room) in
    record {
      areas = c.split-part.ensures.areas.0;
      seat = still_same c.args.seat.now.known c.sheets.seat.known c.split-part.new.seat.known c.sheets.invariant.seat c.split-part.ensures.kept;
      rights = omega (arith, ap (λ (v : View). v.right) c.split-part.ensures.kept, c.sheets.invariant.rights, kept, half.0);
      halves = kept ∙ half.1 ∙ ap (λ (n : ℕ). 2 ^ (16 - n)) (sym long);
      whole = omega (arith, kept, given, half.0, parts, c.sheets.invariant.whole);
      many = omega (arith, long, c.in-Some.ensures.cases, c.sheets.invariant.many);
      sheet_room = c.pop.ensures.capacity ∙ c.sheets.invariant.sheet_room;
      worker_room = c.push_reserved.ensures.capacity ∙ c.sheets.invariant.worker_room;
      enough = enough.0;
      rooms = λ n h.
          (let R : Sheet → Type 0 = λ s. n ≤ s.outcomes.room in
          (All-pop R c.sheets.sheets.items c.pop.new.self.items (Some c.in-Some.sheet) c.in-Some.ensures.items (c.sheets.invariant.rooms n h)).0);
      worker_rooms = λ n h.
          (let R : Sheet → Type 0 = λ s. n ≤ s.outcomes.room in
          let L : List Worker → Type 0 = λ l. All (HasRoom n) l in
          let one : n ≤ c.in-Some.sheet.outcomes.room =
          (All-pop R c.sheets.sheets.items c.pop.new.self.items (Some c.in-Some.sheet) c.in-Some.ensures.items (c.sheets.invariant.rooms n h)).1 in
          let own : n ≤ w.outcomes.room = omega (arith, one, own_room) in
          subst L (sym items) (All-push (HasRoom n) c.sheets.workers.items w (c.sheets.invariant.worker_rooms n h) own));
      at_hand =
          (let P : Worker → Type 0 = λ x. IsAtHand c.args.areas.now c.args.start c.args.end x in
          let L : List Worker → Type 0 = λ l. All P l in
          subst L (sym items)
          (All-push P c.sheets.workers.items w c.sheets.invariant.at_hand
          (hired_at_hand c.args.areas.now c.args.start c.args.end c.sheets.seat.known w own_view own_outcomes
          c.of-worker.ensures.next may own_areas seen c.requires.range room)));
      judged = λ list.
          (let P : Worker → Type 0 = λ x. HasJudged c.args.areas.now.plan list c.args.start x in
          let L : List Worker → Type 0 = λ l. All P l in
          subst L (sym items)
          (All-push P c.sheets.workers.items w (c.sheets.invariant.judged list)
          (hired_judged c.args.areas.now c.args.start c.args.end c.sheets.seat.known w own_view own_outcomes
          c.of-worker.ensures.next may c.args.areas.now.plan list)));
    }
