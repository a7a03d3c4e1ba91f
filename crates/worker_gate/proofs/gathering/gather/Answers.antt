use Rattle.std.proofs.Common.{◌≡◌, ℕ, ◌+◌, ◌<◌, ◌≤◌, List, [], ◌∷◌, ◌++◌, All, length, ap, subst, refl, sym, ◌∙◌, arith, Some}
use Rattle.std.proofs.lemmas.List.{length-map}
use Rattle.std.proofs.lemmas.List.Elements.{All-pop, All-push}
use Rattle.area_swap.specs.declared.board.View.{View}
use Rattle.worker_gate.specs.declared.crew.Sheet.{Sheet}
use Rattle.worker_gate.specs.declared.worker.Worker.{Worker}
use Rattle.worker_gate.specs.OutcomeLists.{number_of}
use Rattle.worker_gate.specs.Gathering.{AreNoted, Gathered, HasJudged, HasRoom, IsAtHand, shares}
use Rattle.worker_gate.proofs.Gathered.{few_outcomes, gathered_more, numbers_in_round}
use Rattle.worker_gate.proofs.Hands.{one_longer}
use Rattle.worker_gate.proofs.Hired.{shares_more}
use Rattle.worker_gate.proofs.gathering.gather.Goals as goal

pub note_sheet-requires-clause-inside : goal.note_sheet-requires-clause-inside
note_sheet-requires-clause-inside c =
    let P : Worker → Type 0 = λ x. IsAtHand c.args.areas.now c.args.start c.args.end x in
    let L : List ℕ → Type 0 = λ l. All (λ (n : ℕ). (c.args.start ≤ n) × (n < c.args.start + length c.workers.places.items)) l in
    let hand : P c.in-Some.worker =
    (All-pop P c.workers.workers.items c.pop.new.self.items (Some c.in-Some.worker) c.in-Some.ensures.items c.workers.invariant.at_hand).1 in
    subst L (sym c.numbers.ensures)
    (numbers_in_round c.args.areas.now c.args.start c.args.end (length c.workers.places.items) c.in-Some.worker hand c.workers.invariant.size)

pub note_sheet-requires-clause-few : goal.note_sheet-requires-clause-few
note_sheet-requires-clause-few c =
    let P : Worker → Type 0 = λ x. IsAtHand c.args.areas.now c.args.start c.args.end x in
    let hand : P c.in-Some.worker =
    (All-pop P c.workers.workers.items c.pop.new.self.items (Some c.in-Some.worker) c.in-Some.ensures.items c.workers.invariant.at_hand).1 in
    let same : length c.numbers.result.now ≡ length c.in-Some.worker.outcomes.items =
    ap (λ (l : List ℕ). length l) c.numbers.ensures ∙ length-map c.in-Some.worker.outcomes.items number_of in
    omega (arith, same, few_outcomes c.args.areas.now c.args.start c.args.end c.in-Some.worker hand, c.ranges.end.fits)

pub workers-preserved : goal.workers-preserved
workers-preserved c =
    let P : Worker → Type 0 = λ x. IsAtHand c.args.areas.now c.args.start c.args.end x in
    let w : Worker = c.in-Some.worker in
    let s : Sheet = record { outcomes = w.outcomes } in
    let hands : All P c.pop.new.self.items × P w =
    All-pop P c.workers.workers.items c.pop.new.self.items (Some w) c.in-Some.ensures.items c.workers.invariant.at_hand in
    let items : c.push_reserved.new.self.items ≡ c.workers.sheets.items ++ s ∷ [] = c.push_reserved.ensures.items in
    let long : length c.push_reserved.new.self.items ≡ length c.workers.sheets.items + 1 = one_longer c.push_reserved.new.self.items c.workers.sheets.items s items in
    let parts : shares c.workers.workers.items ≡ shares c.pop.new.self.items + w.seat.known.share =
    ap shares c.in-Some.ensures.items ∙ shares_more c.pop.new.self.items w in
    let joined : c.join.new.seat.known.share ≡ c.workers.seat.known.share + w.seat.known.share = ap (λ (v : View). v.share) c.join.ensures.seat in
    record {
      areas = c.join.ensures.areas;
      idle = ap (λ (v : View). v.actor.state) c.join.ensures.seat ∙ c.workers.invariant.idle;
      at_hand = hands.0;
      whole = omega (arith, joined, parts, c.workers.invariant.whole);
      many = omega (arith, long, c.in-Some.ensures.cases, c.workers.invariant.many);
      sheet_room = c.push_reserved.ensures.capacity ∙ c.workers.invariant.sheet_room;
      worker_room = c.pop.ensures.capacity ∙ c.workers.invariant.worker_room;
      place_room = omega (arith, c.note_sheet.ensures.room, c.workers.invariant.place_room);
      size = omega (arith, c.note_sheet.ensures.size, c.workers.invariant.size);
      rooms = λ n h. (All-pop (HasRoom n) c.workers.workers.items c.pop.new.self.items (Some w) c.in-Some.ensures.items (c.workers.invariant.rooms n h)).0;
      sheet_rooms = λ n h.
          (let R : Sheet → Type 0 = λ x. n ≤ x.outcomes.room in
          let L : List Sheet → Type 0 = λ l. All R l in
          let own : n ≤ w.outcomes.room =
          (All-pop (HasRoom n) c.workers.workers.items c.pop.new.self.items (Some w) c.in-Some.ensures.items (c.workers.invariant.rooms n h)).1 in
          subst L (sym items) (All-push R c.workers.sheets.items s (c.workers.invariant.sheet_rooms n h) own));
      judged = λ list h.
          (let J : Worker → Type 0 = λ x. HasJudged c.args.areas.now.plan list c.args.start x in
          (All-pop J c.workers.workers.items c.pop.new.self.items (Some w) c.in-Some.ensures.items (c.workers.invariant.judged list h)).0);
      gathered = λ list h.
          (let J : Worker → Type 0 = λ x. HasJudged c.args.areas.now.plan list c.args.start x in
          let own : J w =
          (All-pop J c.workers.workers.items c.pop.new.self.items (Some w) c.in-Some.ensures.items (c.workers.invariant.judged list h)).1 in
          let N : List ℕ → Type 0 =
          λ l. AreNoted c.args.start (length c.workers.sheets.items) l (length l) c.workers.places.items c.note_sheet.new.places.items in
          let M : ℕ → Type 0 =
          λ n. AreNoted c.args.start n c.numbers.result.now (length c.numbers.result.now) c.workers.places.items c.note_sheet.new.places.items in
          let number : c.len.result ≡ length c.workers.sheets.items = omega (arith, c.len.ensures, c.workers.sheets.ok) in
          let V : View → Type 0 =
          λ v. Gathered c.args.areas.now.plan list c.args.start c.args.end c.args.seat.now.known v (c.workers.sheets.items ++ s ∷ []) c.note_sheet.new.places.items in
          let S : List Sheet → Type 0 =
          λ l. Gathered c.args.areas.now.plan list c.args.start c.args.end c.args.seat.now.known c.join.new.seat.known l c.note_sheet.new.places.items in
          subst S (sym items)
          (subst V (sym c.join.ensures.seat)
          (gathered_more c.args.areas.now list c.args.start c.args.end c.args.seat.now.known c.workers.seat.known w c.workers.sheets.items s
          c.workers.places.items c.note_sheet.new.places.items refl (c.workers.invariant.gathered list h) hands.1 own
          (subst N c.numbers.ensures (subst M number c.note_sheet.ensures.noted)) c.note_sheet.ensures.size)));
    }
