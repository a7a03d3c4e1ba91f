use Rattle.std.proofs.Common.{arith, rules}
use Rattle.aftr_base.proofs.FrontLemmas.{front_more}
use Rattle.aftr_io.proofs.PieceLemmas.{took_then}
use Rattle.aftr_io.proofs.pieces.put_all.Goals as goal

pub pieces-preserved : goal.pieces-preserved
pieces-preserved g c = record {
  within = search (rules, arith);
  out = took_then _ _ _ _ _ _ c.pieces.invariant.out c.in_ok-done.ensures.out (front_more c.args.bytes.now c.pieces.done c.in_ok-done.field-0);
  faults = search rules;
}
