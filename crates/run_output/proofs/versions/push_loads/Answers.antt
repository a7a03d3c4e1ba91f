use Rattle.std.proofs.Common.{◌++◌, ◌∙◌, ap, arith}
use Rattle.std.specs.Prelude.{slice_index_or, string_bytes}
use Rattle.reload_plan.specs.declared.loads.Slot.TheVariants as slot
use Rattle.run_output.specs.Versions.{slot_text}
use Rattle.run_output.proofs.VersionLemmas.{load_more, load_read, put_on, slot_read}
use Rattle.run_output.proofs.versions.push_loads.Goals as goal

pub loads-preserved : goal.loads-preserved
loads-preserved c = record {
  after = omega arith;
  before = omega arith;
  left = load_more c.args.points.now c.args.loads.now c.args.slots.now c.loads.at c.args.to (slice_index_or c.args.loads.now c.loads.at c.index-loads-at.result) (slice_index_or c.args.slots.now c.loads.at (slot.Version 0))
      (string_bytes c.loads.lines) (string_bytes c.push_load.new.lines) _ c.loads-test.true
      (load_read c.args.loads.now c.loads.at c.index-loads-at.result (omega (arith, c.requires.same, c.requires.inside, c.loads-test.true)))
      (slot_read c.args.slots.now c.loads.at (slot.Version 0) (omega (arith, c.requires.inside, c.loads-test.true)))
      (c.in_ok-push_load.ensures.line ∙ ap (λ name. string_bytes c.loads.lines ++ slot_text c.args.points.now name (slice_index_or c.args.slots.now c.loads.at (slot.Version 0))) c.as_str.ensures)
      c.loads.invariant.left;
  kept = put_on (string_bytes c.args.lines.now) (string_bytes c.loads.lines) (string_bytes c.push_load.new.lines) _ c.loads.invariant.kept
      c.in_ok-push_load.ensures.line;
}
