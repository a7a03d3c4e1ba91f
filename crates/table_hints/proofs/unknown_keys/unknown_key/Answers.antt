use Rattle.table_hints.proofs.FirstKeys.{key_is_told}
use Rattle.table_hints.proofs.unknown_keys.unknown_key.Goals as goal

pub returns-clause-told : goal.returns-clause-told
returns-clause-told c = key_is_told c.args.text.now c.key_of.result c.key_of.ensures
