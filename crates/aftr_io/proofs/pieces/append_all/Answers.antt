use Rattle.std.proofs.Common.{arith, rules}
use Rattle.aftr_base.proofs.FrontLemmas.{front_more}
use Rattle.aftr_io.proofs.PieceLemmas.{moves_then}
use Rattle.aftr_io.proofs.pieces.append_all.Goals as goal

pub pieces-preserved : goal.pieces-preserved
pieces-preserved g c = record {
  within = search (rules, arith);
  held = moves_then _ _ _ _ _ _ _ c.pieces.invariant.held c.in_ok-done.ensures.held (front_more c.args.bytes.now c.pieces.done c.in_ok-done.field-0);
  spoiled = search rules;
}
