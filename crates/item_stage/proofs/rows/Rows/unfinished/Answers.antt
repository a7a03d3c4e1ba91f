use Rattle.std.proofs.Common.{◌∙◌}
use Rattle.item_stage.proofs.RowLemmas.{all_numbers}
use Rattle.item_stage.proofs.rows.Rows.unfinished.Goals as goal

pub returns : goal.returns
returns c =
    c.ascending.ensures
    ∙ all_numbers c.args.self.now c.new-numbers.result.items c.push_numbers.new.out.items c.push_numbers-2.new.out.items c.push_numbers-3.new.out.items c.new-numbers.ensures.items
    c.in_ok-push_numbers.ensures c.in_ok-push_numbers-2.ensures c.in_ok-push_numbers-3.ensures
