-- The type of service and the length are those of the packet that came.
use Rattle.std.proofs.Common.{◌∙◌, sym}
use Rattle.ip_codec.specs.Packet4.{packet4}
use Rattle.softwire_encap.specs.Passing.{lowered}
use Rattle.softwire_encap.proofs.PassingLemmas.{like_old}
use Rattle.softwire_encap.proofs.TunnelLemmas.{wrapped-pushed}
use Rattle.softwire_encap.proofs.tunnel.push_tunnelled.Goals as goal

pub returns-clause-bytes : goal.returns-clause-bytes
returns-clause-bytes c =
    let packet = packet4 c.args.p.now in
    let like = like_old packet c.requires.whole in
    wrapped-pushed c.args.from c.args.to c.args.hop packet.tos c.total_len.result c.args.out.now.items c.push_tunnel_head.new.out.items c.push_lowered.new.out.items
    (lowered packet) like.tos (like.len ∙ sym c.total_len.ensures) c.in_ok-push_tunnel_head.ensures.bytes c.in_ok-push_lowered.ensures.bytes
