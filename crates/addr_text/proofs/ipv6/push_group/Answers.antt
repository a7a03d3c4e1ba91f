use Rattle.std.proofs.Common.{arith}
use Rattle.std.proofs.lemmas.Grind.{common_steps}
use Rattle.addr_text.proofs.Written.{four_digits, three_digits, two_digits, one_digit}
use Rattle.addr_text.proofs.ipv6.push_group.Goals as goal

pub returns-clause-digits : goal.returns-clause-digits
returns-clause-digits c =
    let before = c.args.text.now.bytes in
    grind (arith, common_steps, four_digits before c.args.group, three_digits before c.args.group, two_digits before c.args.group, one_digit before c.args.group)
