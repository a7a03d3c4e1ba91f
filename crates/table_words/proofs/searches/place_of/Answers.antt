use Rattle.std.proofs.Common.{arith}
use Rattle.table_words.proofs.Ends.{span_front, boundary_whole}
use Rattle.table_words.proofs.searches.place_of.Goals as goal

pub lower_bound-requires : goal.lower_bound-requires
lower_bound-requires g c =
    let h = c.end_of-end.ensures in
    span_front _ _ _ _ c.requires.span (omega (arith, h.some)) h.within

pub returns-clause-place : goal.returns-clause-place
returns-clause-place g c = boundary_whole _ _ _ c.args.first _ c.end_of-end.result _ c.requires.span c.requires.here c.end_of-end.ensures c.lower_bound.ensures.place
