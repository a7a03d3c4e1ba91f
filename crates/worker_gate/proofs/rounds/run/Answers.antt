use Rattle.std.proofs.Common.{◌≡◌, ℕ, ◌≤◌, ap, sym, ◌∙◌, arith}
use Rattle.swap_core.specs.Sound.{once_below, times}
use Rattle.area_swap.specs.declared.board.View.{View}
use Rattle.worker_gate.specs.Gathering.{Gathered}
use Rattle.worker_gate.specs.Turns.{DrawsNothing}
use Rattle.worker_gate.proofs.Ending.{KeepsDraws, begun, read_again, round_is, round_placed}
use Rattle.worker_gate.proofs.Hands.{rooms_same, shares_same}
use Rattle.worker_gate.proofs.rounds.run.Goals as goal

pub passes-requires-clause-round : goal.passes-requires-clause-round
passes-requires-clause-round g c κs within = λ k d less.
    record { at_hand = c.hire.ensures.at_hand k d less; judged = c.hire.ensures.judged (g.S.RoundItems.items c.args.task.now.items.now) k d less; compiled = c.requires.compiled }

pub hire-requires-clause-alone : goal.hire-requires-clause-alone
hire-requires-clause-alone g c =
    ap (λ (v : View). v.right) c.see.ensures.seat ∙ c.see.ensures.sees.whole_right c.requires.whole

pub gather-requires-clause-at_hand : goal.gather-requires-clause-at_hand
gather-requires-clause-at_hand g c = λ k d less. (c.passes.ensures.round k d less).at_hand

pub tally-requires-clause-whole : goal.tally-requires-clause-whole
tally-requires-clause-whole g c =
    omega (arith, c.gather.ensures.whole, c.passes.ensures.nothing.same_share, shares_same c.hire.new.workers.items c.passes.new.workers.items c.passes.ensures.hands, c.hire.ensures.whole)

pub returns-clause-rooms : goal.returns-clause-rooms
returns-clause-rooms g c = λ room h.
    c.gather.ensures.rooms room
    (rooms_same room c.hire.new.workers.items c.passes.new.workers.items c.passes.ensures.hands (c.hire.ensures.rooms room h))

pub returns-clause-round : goal.returns-clause-round
returns-clause-round g c =
    let p = c.args.task.now.areas.now.plan in
    let items = g.S.RoundItems.items c.args.task.now.items.now in
    let u = c.args.seat.now.known in
    let v = c.passes.new.seat.known in
    let w = c.gather.new.seat.known in
    let x = c.settle.new.seat.known in
    let sheets = c.gather.new.sheets.items in
    let places = c.gather.new.places.items in
    let first : KeepsDraws u v =
    begun u c.see.new.seat.known c.hire.new.seat.known v c.see.result c.see.ensures.seat c.see.ensures.sees.later c.hire.ensures.seat
    c.passes.ensures.nothing in
    let h : Gathered p items c.args.task.now.start c.args.task.now.end v w sheets places =
    c.gather.ensures.gathered items (λ k d less. (c.passes.ensures.round k d less).judged) in
    let last : DrawsNothing w x =
    read_again w c.tally.new.seat.known x c.tally.new.seat.known.seen c.tally.ensures.seat.0 c.tally.ensures.sees.later c.settle.ensures.nothing in
    let before : (n : ℕ) → times n u.actor ≡ once_below n c.args.task.now.start =
    λ n. c.see.ensures.sees.each_once c.requires.whole n ∙ ap (λ (r : ℕ). once_below n r) (sym (c.see.ensures.sees.all_drawn c.requires.whole) ∙ c.requires.drawn) in
    let reached : c.args.task.now.end ≤ c.tally.result =
    omega (arith, c.passes.ensures.reached, h.later.records, c.tally.ensures.sees.later.records, c.tally.ensures.seat.1) in
    let whole : w.share ≡ 65536 =
    omega (arith, c.gather.ensures.whole, c.passes.ensures.nothing.same_share, shares_same c.hire.new.workers.items c.passes.new.workers.items c.passes.ensures.hands, c.hire.ensures.whole) in
    round_is p items c.args.task.now.start c.args.task.now.end c.tally.result u v w x sheets places first h last c.gather.ensures.places.0 before c.tally.ensures.each_once
    reached c.tally.ensures.all_drawn c.requires.seat.its_areas.same_plan c.settle.ensures.areas.0.same_plan (last.same_share ∙ whole)
    c.settle.ensures.idle

pub returns-clause-places : goal.returns-clause-places
returns-clause-places g c =
    let p = c.args.task.now.areas.now.plan in
    let items = g.S.RoundItems.items c.args.task.now.items.now in
    let u = c.args.seat.now.known in
    let v = c.passes.new.seat.known in
    let w = c.gather.new.seat.known in
    let x = c.settle.new.seat.known in
    let sheets = c.gather.new.sheets.items in
    let places = c.gather.new.places.items in
    let first : KeepsDraws u v =
    begun u c.see.new.seat.known c.hire.new.seat.known v c.see.result c.see.ensures.seat c.see.ensures.sees.later c.hire.ensures.seat
    c.passes.ensures.nothing in
    let h : Gathered p items c.args.task.now.start c.args.task.now.end v w sheets places =
    c.gather.ensures.gathered items (λ k d less. (c.passes.ensures.round k d less).judged) in
    let last : DrawsNothing w x =
    read_again w c.tally.new.seat.known x c.tally.new.seat.known.seen c.tally.ensures.seat.0 c.tally.ensures.sees.later c.settle.ensures.nothing in
    let before : (n : ℕ) → times n u.actor ≡ once_below n c.args.task.now.start =
    λ n. c.see.ensures.sees.each_once c.requires.whole n ∙ ap (λ (r : ℕ). once_below n r) (sym (c.see.ensures.sees.all_drawn c.requires.whole) ∙ c.requires.drawn) in
    let reached : c.args.task.now.end ≤ c.tally.result =
    omega (arith, c.passes.ensures.reached, h.later.records, c.tally.ensures.sees.later.records, c.tally.ensures.seat.1) in (
      round_placed p items c.args.task.now.start c.args.task.now.end c.tally.result u v w x sheets places first h last c.gather.ensures.places.0 before
          c.tally.ensures.each_once reached,
      c.gather.ensures.places.0,
    )
