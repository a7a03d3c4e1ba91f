-- The header asks of the inner bytes for the second one alone.
use Rattle.std.proofs.Common.{◌++◌, ◌∙◌, ap, arith}
use Rattle.ip_codec.specs.Packet6.{made6}
use Rattle.ip_codec.specs.declared.packet6.Head6.{Head6}
use Rattle.softwire_encap.proofs.TunnelLemmas.{longer_body}
use Rattle.softwire_encap.proofs.tunnel.tunnel_view.Goals as goal

pub returns-clause-longer : goal.returns-clause-longer
returns-clause-longer c = λ rest.
    let inner = c.args.inner.now in
    ap (λ (head : Head6). made6 head (inner ++ rest)) c.tunnel_head-head.ensures
    ∙ longer_body c.args.from c.args.to c.args.hop inner rest (omega (arith, c.requires))
