use Rattle.std.proofs.Common.{◌∙◌}
use Rattle.ip_codec.proofs.PartLemmas.{checksum-parts}
use Rattle.ip_codec.proofs.packet4.sum_of_both.Goals as goal

pub returns : goal.returns
returns c = c.patch16.ensures.value ∙ rw (c.sum16.ensures, c.sum16-2.ensures) (checksum-parts c.args.first.now c.args.rest.now c.requires)
