-- The words of a header without options, two at a time.
use Rattle.ip_codec.proofs.PlainLemmas.{plain_folds}
use Rattle.ip_codec.proofs.packet4.plain_sum.Goals as goal

pub returns-clause-folds : goal.returns-clause-folds
returns-clause-folds c =
    rw (
      c.from.ensures,
      c.be32.ensures,
      c.from-2.ensures,
      c.be32-2.ensures,
      c.from-3.ensures,
      c.be32-3.ensures,
      c.from-4.ensures,
      c.be32-4.ensures,
      c.from-5.ensures,
      c.be32-5.ensures,
    ) (plain_folds c.args.header.now c.requires)
