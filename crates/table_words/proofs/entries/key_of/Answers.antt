use Rattle.table_words.proofs.Keys.{whole_key}
use Rattle.table_words.proofs.entries.key_of.Goals as goal

pub returns-in-Whole : goal.returns-in-Whole
returns-in-Whole c = rw c.in-Whole.is (whole_key c.args.first c.if-offset-eq0.true c.if-length-eq0.true)
