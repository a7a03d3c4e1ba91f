use Rattle.std.proofs.Common.{◌≡◌, rules}
use Rattle.toml_parser.specs.Lexical.{first}
use Rattle.table_costs.proofs.FirstLineLemmas.{header_begins}
use Rattle.table_costs.proofs.first_line.begins_line.Goals as goal

pub returns-then-first-eq91 : goal.returns-then-first-eq91
returns-then-first-eq91 c =
    let is : first c.args.text.now ≡ 91 = search rules in
    rw (header_begins c.args.text.now is) c.is_header.ensures
