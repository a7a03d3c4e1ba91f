use Rattle.std.proofs.Common.{◌∙◌, ap}
use Rattle.reassembly_lane.specs.Contexts.{with_part}
use Rattle.reassembly_lane.specs.Lanes.{fragment_of, fresh, part_of}
use Rattle.reassembly_lane.proofs.Begins.{since_begun}
use Rattle.reassembly_lane.proofs.contexts.begin.Goals as goal

pub returns-in_ok-_late-in-Stays-clause-oldest : goal.returns-in_ok-_late-in-Stays-clause-oldest
returns-in_ok-_late-in-Stays-clause-oldest g c since =
    since_begun g.K.Ord.cmp c.args.piece.time c.args.oldest.now c.args.contexts.now.entries c.insert.new.self.entries c.args.piece.key (part_of (fragment_of c.args.piece))
    c.requires since c.args.piece.number c.min.result c.take.new.self c.in_ok-answer.field-0 c.in-Stays.answer (c.in_ok-answer.ensures.turn
    ∙ ap (λ p. with_part p (part_of c.fragment.result)) c.new-context.ensures
    ∙ ap (λ f. with_part (fresh c.args.piece.time c.args.piece.number) (part_of f)) c.fragment.ensures)
    c.in-Stays.is c.in_ok-_late-in-Stays.ensures.entries c.min.ensures
