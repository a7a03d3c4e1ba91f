-- What is written is read back.
use Rattle.std.proofs.Common.{◌≡◌, ◌∙◌, ap, rules}
use Rattle.ip_codec.specs.Packet6.{ip6_of, bytes6}
use Rattle.ip_codec.proofs.Packet6Lemmas.{ip6_of-bytes6}
use Rattle.ip_codec.proofs.packet6.put6.Goals as goal

pub returns-clause-read : goal.returns-clause-read
returns-clause-read c =
    let fit = c.head6_bytes.ensures in
    let written : c.of.result ≡ bytes6 c.args.head.now c.args.body.now = search rules in
    ap ip6_of written ∙ ip6_of-bytes6 c.args.head.now c.args.body.now fit.word_fits c.requires.version fit.addresses_fit.0 fit.addresses_fit.1
