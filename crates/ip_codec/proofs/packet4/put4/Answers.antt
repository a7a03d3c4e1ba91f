-- What is written is read back.
use Rattle.std.proofs.Common.{◌≡◌, ◌++◌, length, ◌∙◌, ap, arith}
use Rattle.std.proofs.lemmas.Grind.{common_steps}
use Rattle.ip_codec.specs.Packet4.{ip4_of, header4}
use Rattle.ip_codec.proofs.Packet4Lemmas.{ip4_of-header4}
use Rattle.ip_codec.proofs.packet4.put4.Goals as goal

pub returns-clause-read : goal.returns-clause-read
returns-clause-read c =
    let head = c.args.head.now in
    let fit = c.fixed_part.ensures.addresses_fit in
    let written : c.of.result ≡ header4 head c.args.options.now (length c.args.payload.now) ++ c.args.payload.now = grind (arith, common_steps) in
    ap ip4_of written
    ∙ ip4_of-header4 head c.args.options.now c.args.payload.now fit.0 fit.1
    c.requires.offset c.requires.whole_words c.requires.most_options
