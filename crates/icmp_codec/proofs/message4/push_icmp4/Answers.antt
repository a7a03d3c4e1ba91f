-- What is written is read back.
use Rattle.std.proofs.Common.{◌++◌, arith}
use Rattle.icmp_codec.proofs.MessageLemmas.{icmp4_of-bytes}
use Rattle.icmp_codec.proofs.message4.push_icmp4.Goals as goal

pub returns-clause-read : goal.returns-clause-read
returns-clause-read c = λ some.
    icmp4_of-bytes c.args.head.kind c.args.head.code c.args.head.word (c.args.quote.now ++ c.args.more.now) (omega arith) some
