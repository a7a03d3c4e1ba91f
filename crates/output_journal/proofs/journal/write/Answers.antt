use Rattle.std.proofs.Common.{arith, refl}
use Rattle.output_journal.specs.Log.{entry_steps, output_names}
use Rattle.output_journal.proofs.EntryLemmas.{goes_on, stops}
use Rattle.output_journal.proofs.journal.write.Goals as goal

pub returns-in_err-write_entry : goal.returns-in_err-write_entry
returns-in_err-write_entry g c = record {
  log = stops (output_names c.args.names) entry_steps c.args.entries.now c.entries.i _ _ refl (omega (arith, c.entries-test.true)) _ _ _ c.entries.invariant.logged
      c.in_err-write_entry.field-0.0 c.from_residual.result c.from_residual.ensures.1 c.in_err-write_entry.ensures.log;
}

pub entries-preserved : goal.entries-preserved
entries-preserved g c = record {
  within = omega (arith, c.entries-test.true);
  logged = goes_on (output_names c.args.names) entry_steps c.args.entries.now c.entries.i _ _ refl (omega (arith, c.entries-test.true)) _ _ _
      c.entries.invariant.logged c.in_ok-write_entry.ensures.log;
}
