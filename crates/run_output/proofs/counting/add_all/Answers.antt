use Rattle.std.proofs.Common.{◌≡◌, ℕ, length, subst, arith}
use Rattle.run_output.specs.Cells.{AreCounted}
use Rattle.run_output.proofs.CountLemmas.{counted_on_part}
use Rattle.run_output.proofs.counting.add_all.Goals as goal

pub parts-preserved : goal.parts-preserved
parts-preserved c = record {
  within = omega arith;
  counted = λ w size number cs are within few.
      counted_on_part w size cs number c.parts.i c.args.totals.now c.parts.totals c.add_counted.new.totals c.args.parts.now c.index-parts-i.result
      are c.requires c.parts-test.true few c.add_counted.ensures (c.parts.invariant.counted w size number cs are within few);
}

pub returns : goal.returns
returns c = λ w size number cs are within few.
    let ended : c.parts.i ≡ length c.args.parts.now = omega arith in
    subst (λ (k : ℕ). AreCounted size cs number k c.args.totals.now c.parts.totals) ended (c.parts.invariant.counted w size number cs are within few)
