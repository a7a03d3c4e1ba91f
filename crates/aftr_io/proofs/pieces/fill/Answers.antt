use Rattle.std.proofs.Common.{◌∙◌, ap, arith, rules}
use Rattle.aftr_io.proofs.OutsideLemmas.{read_well}
use Rattle.aftr_base.proofs.FrontLemmas.{front_over}
use Rattle.aftr_io.proofs.PieceLemmas.{told_front, told_there}
use Rattle.aftr_io.proofs.pieces.fill.Goals as goal

pub pieces-preserved : goal.pieces-preserved
pieces-preserved g c = record {
  within = search rules;
  bytes = told_front _ _ _ _ _ _ _ _ _ (ap (λ o. o.held) c.pieces.invariant.readable) (front_over c.pieces.got _ c.in_ok-count.count c.pieces.into c.read.new.into c.pieces.invariant.within (omega (arith, c.in_ok-count.ensures.within))) c.pieces.invariant.bytes c.in_ok-count.ensures.bytes;
  there = told_there _ _ _ _ _ _ c.read.new.into (ap (λ o. o.held) c.pieces.invariant.readable) (omega (arith, c.in_ok-count.ensures.within)) c.pieces.invariant.there c.in_ok-count.ensures.bytes;
  readable = read_well c.args.name.now _ _ _ c.in_ok-count.ensures.reads ∙ c.pieces.invariant.readable;
}
