use Rattle.std.proofs.Common.{List, ap, arith, sym, ℕ}
use Rattle.output_journal.specs.Log.{adds, output_names}
use Rattle.output_journal.proofs.EntryLemmas.{goes_on, stops}
use Rattle.output_journal.proofs.rounds.write_parts.Goals as goal

pub returns-in_err-write_entry : goal.returns-in_err-write_entry
returns-in_err-write_entry g c = record {
  log = stops (output_names c.args.names) _ c.args.parts.now c.parts.i _ _ (sym c.index-parts-i.is) (omega (arith, c.parts-test.true)) _ _ _ c.parts.invariant.logged
      c.in_err-write_entry.field-0.0 c.from_residual.result c.from_residual.ensures.1
      (rw (ap (λ (l : List ℕ). adds c.args.output l) c.part_bytes-bytes.ensures) at c.in_err-write_entry.ensures.log);
}

pub parts-preserved : goal.parts-preserved
parts-preserved g c = record {
  within = omega (arith, c.parts-test.true);
  logged = goes_on (output_names c.args.names) _ c.args.parts.now c.parts.i _ _ (sym c.index-parts-i.is) (omega (arith, c.parts-test.true)) _ _ _ c.parts.invariant.logged
      (rw (ap (λ (l : List ℕ). adds c.args.output l) c.part_bytes-bytes.ensures) at c.in_ok-write_entry.ensures.log);
}
