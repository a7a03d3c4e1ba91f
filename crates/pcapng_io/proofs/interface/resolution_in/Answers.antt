-- All options are there.
use Rattle.std.proofs.Common.{sym, ◌∙◌}
use Rattle.pcapng_io.proofs.OptionLemmas.{none_first, self_start}
use Rattle.pcapng_io.proofs.interface.resolution_in.Goals as goal

pub returns-in-Bad : goal.returns-in-Bad
returns-in-Bad c = sym (none_first c.args.big c.args.first.now c.args.at 16 c.args.end ∙ c.in-Bad.ensures.says c.args.first.now (self_start c.args.first.now) c.requires.whole)
