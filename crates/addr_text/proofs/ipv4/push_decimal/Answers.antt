use Rattle.std.proofs.Common.{arith}
use Rattle.std.proofs.lemmas.Grind.{common_steps}
use Rattle.addr_text.proofs.Bytes.{three_digits, two_digits, one_digit}
use Rattle.addr_text.proofs.ipv4.push_decimal.Goals as goal

pub returns-clause-digits : goal.returns-clause-digits
returns-clause-digits c = grind (arith, common_steps, three_digits c.args.text.now.bytes c.args.byte, two_digits c.args.text.now.bytes c.args.byte, one_digit c.args.text.now.bytes c.args.byte)
