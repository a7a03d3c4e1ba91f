use Rattle.table_hints.proofs.LineLemmas.{front_is}
use Rattle.table_hints.proofs.lines.first_lines.Goals as goal

pub returns : goal.returns
returns c = front_is c.args.count c.args.text.now c.bytes.end c.bytes.left c.bytes.rest.now c.split_at.result.0.now c.in_default.len_below c.bytes.invariant.whole c.split_at.ensures.front
