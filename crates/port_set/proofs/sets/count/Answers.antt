use Rattle.std.proofs.Common.{length, ap, ◌∙◌, arith}
use Rattle.port_set.proofs.Shares.{owned_ports_are}
use Rattle.port_set.proofs.Spans.{length-ports_between}
use Rattle.port_set.proofs.sets.count.Goals as goal

pub returns : goal.returns
returns c = λ psid below.
    ap length (owned_ports_are c.args.shape.offset c.args.shape.length psid c.count_of.ensures.fits below)
    ∙ length-ports_between _ _ _ 0 _ ∙ omega (arith, c.count_of.ensures.value)
