use Rattle.std.proofs.Common.{◌++◌, ap, ◌∙◌, arith}
use Rattle.table_hints.proofs.LineLemmas.{headers_from, headers_are}
use Rattle.table_costs.specs.declared.parts.Part.TheVariants as part
use Rattle.table_hints.proofs.headers.header_lines.Goals as goal

pub bytes-init : goal.bytes-init
bytes-init c = record {
  found = ap (λ found. found ++ headers_from part.Plain 1 c.args.text.now) c.new-lines.ensures.items ∙ headers_are c.args.text.now;
  room = omega arith;
}
