use Rattle.table_hints.proofs.Troubles.{no_begin}
use Rattle.table_hints.proofs.trouble.of_text.Goals as goal

pub returns-then-not-branch-clause-its_own : goal.returns-then-not-branch-clause-its_own
returns-then-not-branch-clause-its_own c = no_begin c.in_ok-begins_toml.field-0 c.args.text.now c.in_ok-begins_toml.ensures c.if-not-branch.true
