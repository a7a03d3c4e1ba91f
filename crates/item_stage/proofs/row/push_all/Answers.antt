use Rattle.std.proofs.Common.{ℕ, List, ◌+◌, ◌++◌, arith, refl, subst, sym}
use Rattle.std.specs.Prelude.{IsPermutation}
use Rattle.reassembly_lane.specs.Lanes.{first_numbers}
use Rattle.item_stage.specs.Waiting.{numbers_in}
use Rattle.item_stage.proofs.RowLemmas.{numbers_more}
use Rattle.item_stage.proofs.row.push_all.Goals as goal

pub lanes-preserved : goal.lanes-preserved
lanes-preserved g c = (
  omega (arith, c.lanes-test.true),
  numbers_more c.args.lanes.now c.lanes.index (c.lanes.index + 1) c.index-lanes-index.result (c.args.out.now.items ++ numbers_in c.args.lanes.now) c.lanes.out.items
      c.as_slice.result.now c.extend_from_slice.new.self.items (omega (arith, c.lanes-test.true)) c.index-lanes-index.is refl c.lanes.invariant.1
      (subst (λ (l : List ℕ). IsPermutation (first_numbers c.index-lanes-index.result) l) (sym c.as_slice.ensures) c.in_ok-waiting.ensures.numbers.same)
      c.in_ok-extend_from_slice.ensures.items,
)
