use Rattle.std.proofs.Common.{◌∙◌, ap, refl, true, false}
use Rattle.std.specs.BTreeMap.{is_at}
use Rattle.std.specs.Map.{lookup}
use Rattle.reassembly_lane.specs.Lanes.{open_at, part_of, waits}
use Rattle.reassembly_lane.proofs.Entries.{open_found, open_missing, unchanged}
use Rattle.reassembly_lane.proofs.GoesOn.{ends_at, on_err_always, stays_at, told_at, told_none}
use Rattle.reassembly_lane.proofs.contexts.go_on.Goals as goal

pub returns-in_default-clause-goes_on : goal.returns-in_default-clause-goes_on
returns-in_default-clause-goes_on g c =
    let es = c.args.contexts.now.entries in
    told_none g.K.Ord.cmp es es c.args.key (part_of c.args.fragment) (lookup (is_at (g.K.Ord.cmp c.args.key)) (open_at c.args.time es))
    (open_missing g.met.K.Ord.total c.args.time c.args.key es c.in_default.ensures.ordered c.in_default.ensures.value)

pub returns-then-not-waits-clause-goes_on : goal.returns-then-not-waits-clause-goes_on
returns-then-not-waits-clause-goes_on g c =
    let es = c.args.contexts.now.entries in
    told_none g.K.Ord.cmp es es c.args.key (part_of c.args.fragment) (lookup (is_at (g.K.Ord.cmp c.args.key)) (open_at c.args.time es))
    (open_found g.met.K.Ord.total c.args.time c.args.key es c.in-Some.context.now false c.in-Some.ensures.ordered c.in-Some.ensures.value
    (c.if-not-waits.ensures ∙ ap (waits c.args.time) c.begun.ensures))

pub returns-then-not-waits-clause-none : goal.returns-then-not-waits-clause-none
returns-then-not-waits-clause-none g c none =
    let x = c.in-Some.context.now in
    unchanged (is_at (g.K.Ord.cmp c.args.key)) c.args.contexts.now.entries (c.get_mut.follows.lender x).entries x x c.in-Some.ensures.value refl (c.get_mut.follows.holds x).0

pub returns-in_err-answer-clause-err : goal.returns-in_err-answer-clause-err
returns-in_err-answer-clause-err g c =
    let w = c.take.new.self in
    on_err_always c.from_residual.result
    (unchanged (is_at (g.K.Ord.cmp c.args.key)) c.args.contexts.now.entries (c.get_mut.follows.lender w).entries c.in-Some.context.now w c.in-Some.ensures.value c.in_err-answer.ensures.err
    (c.get_mut.follows.holds w).0)

pub returns-in-Stays-clause-goes_on : goal.returns-in-Stays-clause-goes_on
returns-in-Stays-clause-goes_on g c =
    let es = c.args.contexts.now.entries in
    let x = c.in-Some.context.now in
    let w = c.take.new.self in
    let part = part_of c.args.fragment in
    let lent = (c.get_mut.follows.lender w).entries in
    told_at g.K.Ord.cmp es lent c.args.key x part c.in-Stays.answer (lookup (is_at (g.K.Ord.cmp c.args.key)) (open_at c.args.time es))
    (open_found g.met.K.Ord.total c.args.time c.args.key es x true c.in-Some.ensures.ordered c.in-Some.ensures.value (c.if-not-waits.ensures ∙ ap (waits c.args.time) c.begun.ensures))
    (stays_at g.K.Ord.cmp es lent lent c.args.key x w part c.in_ok-answer.field-0 c.in-Stays.answer c.in_ok-answer.ensures.turn (c.get_mut.follows.holds w).0 c.in-Stays.is refl)

pub returns-in-Ends-clause-goes_on : goal.returns-in-Ends-clause-goes_on
returns-in-Ends-clause-goes_on g c =
    let es = c.args.contexts.now.entries in
    let x = c.in-Some.context.now in
    let w = c.take.new.self in
    let part = part_of c.args.fragment in
    let new = c.remove-ended.new.self.entries in
    told_at g.K.Ord.cmp es new c.args.key x part c.in-Ends.answer (lookup (is_at (g.K.Ord.cmp c.args.key)) (open_at c.args.time es))
    (open_found g.met.K.Ord.total c.args.time c.args.key es x true c.in-Some.ensures.ordered c.in-Some.ensures.value (c.if-not-waits.ensures ∙ ap (waits c.args.time) c.begun.ensures))
    (ends_at g.K.Ord.cmp es new (c.get_mut.follows.lender w).entries c.args.key x w part c.in_ok-answer.field-0 c.in-Ends.answer c.in_ok-answer.ensures.turn (c.get_mut.follows.holds w).0 c.in-Ends.is
    c.remove-ended.ensures.entries)
