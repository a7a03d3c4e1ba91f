use Rattle.std.proofs.Common.{◌/◌, ◌<◌, ◌≤◌, length, ◌∙◌, arith}
use Rattle.table_words.specs.Layout.{row_at}
use Rattle.table_words.proofs.Compiling.{index_none, index_more}
use Rattle.table_words.proofs.Groups.{rows_below_is}
use Rattle.table_words.proofs.compiler.put_index.Goals as goal
use Rattle.table_words.proofs.compiler.put_index.Goals.{then-rows-test+else-rows-below, else-rows-test}

pub index-init : goal.index-init
index-init c = record {
  within = omega arith;
  passed = λ e l. absurd (omega arith);
  put = index_none c.args.rows.now c.args.words.now.items;
}

pub index-preserved : goal.index-preserved
index-preserved c =
    let above : c.rows.below < length c.args.rows.now → c.index.high ≤ (row_at c.args.rows.now c.rows.below).0 / 281474976710656 =
    elim c.rows-test.branch [
      | then-rows-test+else-rows-below w ↦ λ l. w.if-rows-below.false
      | else-rows-test w ↦ λ l. absurd (omega arith)
    ] in
    record {
      within = c.rows.invariant.within;
      passed = λ e l. (let h = c.rows.invariant.passed e l in omega (arith, h));
      put = c.in_ok-push.ensures.items ∙ index_more c.args.rows.now c.index.high c.args.words.now.items _ _ c.index.invariant.put
          (rows_below_is c.args.rows.now c.requires c.index.high c.rows.below c.rows.invariant.within c.rows.invariant.passed above);
    }
