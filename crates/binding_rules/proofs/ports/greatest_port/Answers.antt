use Rattle.std.proofs.Common.{arith}
use Rattle.binding_rules.proofs.Greatest.{absent_fits, absent_exact}
use Rattle.binding_rules.proofs.ports.greatest_port.Goals as goal

pub overflow_sub-result : goal.overflow_sub-result
overflow_sub-result c =
    rw (c.from.ensures, absent_exact c.args.binding.offset c.args.binding.length c.args.binding.psid c.requires.shape c.requires.psid)
    (omega (arith, absent_fits c.args.binding.offset c.args.binding.length c.args.binding.psid c.requires.shape c.requires.psid))

pub returns : goal.returns
returns c =
    rw (c.from.ensures, absent_exact c.args.binding.offset c.args.binding.length c.args.binding.psid c.requires.shape c.requires.psid)
