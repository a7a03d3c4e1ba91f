use Rattle.std.proofs.Common.{sym}
use Rattle.port_set.proofs.Shares.{owned_ports_are}
use Rattle.port_set.proofs.ports.Ports.all.Goals as goal

pub returns : goal.returns
returns c =
    rw c.count_of.ensures.value
    (sym (owned_ports_are c.args.shape.offset c.args.shape.length c.args.psid c.count_of.ensures.fits c.requires))
