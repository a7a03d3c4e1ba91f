use Rattle.std.proofs.Common.{◌≡◌, true, false, rules}
use Rattle.table_costs.specs.FirstLines.{begins_toml}
use Rattle.binding_file.proofs.Trees.{cause_costly, cause_no_line}
use Rattle.binding_file.proofs.reading.costly_error.Goals as goal

pub returns-in-Ok-true : goal.returns-in-Ok-true
returns-in-Ok-true c =
    let begins : begins_toml c.args.text.now ≡ true = search rules in
    cause_costly c.args.text.now c.requires.size (record { utf8 = c.requires.utf8; begins = begins; costly = c.requires.costly })

pub returns-in-Ok-false : goal.returns-in-Ok-false
returns-in-Ok-false c =
    let never : begins_toml c.args.text.now ≡ false = search rules in
    cause_no_line c.args.text.now c.requires.size never
