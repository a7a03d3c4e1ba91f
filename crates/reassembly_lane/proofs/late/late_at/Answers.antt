use Rattle.std.proofs.Common.{◌≡◌, ◌≤◌, true, false, sym, subst, arith}
use Rattle.std.proofs.lemmas.List.Elements.{All-nil}
use Rattle.reassembly_lane.specs.Lanes.{late_numbers, open_at, waits}
use Rattle.reassembly_lane.specs.Since.{Since}
use Rattle.reassembly_lane.proofs.Entries.{late_push, late_step, reads_waits, since_late_step, since_open_step}
use Rattle.reassembly_lane.proofs.late.late_at.Goals as goal

pub loop-context-preserved-then-waits : goal.loop-context-preserved-then-waits
loop-context-preserved-then-waits g c =
    let w : true ≡ waits c.args.time c.in-Some.context.now.begun = reads_waits c.args.time c.begun.result c.in-Some.context.now true c.if-waits.ensures c.begun.ensures in
    record {
      told = late_step c.args.time (c.in-Some.field-0-0.now, c.in-Some.context.now) c.loop-context.context-iterator c.next.new.self c.loop-context.numbers.items (late_numbers c.args.time c.args.contexts.now.entries) c.in-Some.ensures.steps w c.loop-context.invariant.told;
      since = λ bound h s.
          let b : c.begun-then-waits.result ≡ c.in-Some.context.now.begun = c.begun-then-waits.ensures in
          let m = c.min-oldest.ensures in
          c.loop-context.invariant.since bound (omega arith) (since_open_step c.args.time bound (c.in-Some.field-0-0.now, c.in-Some.context.now) c.loop-context.context-iterator c.next.new.self c.in-Some.ensures.steps w (omega arith) s);
    }

pub loop-context-preserved : goal.loop-context-preserved
loop-context-preserved g c =
    let w : false ≡ waits c.args.time c.in-Some.context.now.begun = reads_waits c.args.time c.begun.result c.in-Some.context.now false c.if-waits.ensures c.begun.ensures in
    record {
      told = late_push c.args.time c.number.result (c.in-Some.field-0-0.now, c.in-Some.context.now) c.loop-context.context-iterator c.next.new.self c.loop-context.numbers.items c.push.new.self.items (late_numbers c.args.time c.args.contexts.now.entries) c.in-Some.ensures.steps w c.in_ok-push.ensures.items c.number.ensures c.loop-context.invariant.told;
      since = λ bound h s. c.loop-context.invariant.since bound h (since_late_step c.args.time bound (c.in-Some.field-0-0.now, c.in-Some.context.now) c.loop-context.context-iterator c.next.new.self c.in-Some.ensures.steps w s);
    }

pub returns-clause-oldest : goal.returns-clause-oldest
returns-clause-oldest g c = c.loop-context.invariant.since c.loop-context.oldest (omega arith) (subst (λ s. Since c.loop-context.oldest (open_at c.args.time s)) (sym c.in-None.ensures.steps.0) (All-nil (λ partial. c.loop-context.oldest ≤ partial.begun)))
