use Rattle.std.proofs.Common.{refl}
use Rattle.clap.specs.Words.{found_of}
use Rattle.aftr_text.proofs.CommandLemmas.{word_is}
use Rattle.aftr_text.proofs.commands.word.Goals as goal

pub returns : goal.returns
returns c = word_is c.unwrap_or.result c.get_str.result _ (found_of c.args.matches.now) c.args.name.now c.unwrap_or.ensures refl c.get_str.ensures
