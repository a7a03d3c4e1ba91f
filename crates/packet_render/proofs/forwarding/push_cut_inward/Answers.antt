-- The tunnel packet in two parts is the tunnel packet.
use Rattle.std.proofs.Common.{ap}
use Rattle.capture_io.specs.Packets.{packet_bytes}
use Rattle.fragmenter.specs.Pieces6.{fragments6, with_rest}
use Rattle.ip_codec.specs.Packet4.{packet4}
use Rattle.ip_codec.specs.Packet6.{Packet6, packet6}
use Rattle.softwire_encap.specs.Passing.{lowered}
use Rattle.softwire_encap.specs.Tunnel.{tunnelled}
use Rattle.packet_render.proofs.PushLemmas.{same_pushed}
use Rattle.packet_render.proofs.SentLemmas.{tunnelled-parts}
use Rattle.packet_render.proofs.forwarding.push_cut_inward.Goals as goal

pub returns-clause-pushed : goal.returns-clause-pushed
returns-clause-pushed c =
    let stamp = c.args.stamp in
    let tunnel = c.args.tunnel in
    let p = packet4 c.args.packet.now.view in
    let view = packet6 c.tunnel_view-view.result in
    let whole = tunnelled-parts tunnel.from tunnel.to tunnel.hop view c.tunnel_view-view.ensures.is c.tunnel_view-view.ensures.longer c.lowered_header-lowered.ensures p.payload in
    same_pushed (packet_bytes stamp.form stamp.seconds stamp.fraction) (fragments6 (with_rest view p.payload) c.args.mtu c.args.number 0)
    (fragments6 (tunnelled tunnel.from tunnel.to tunnel.hop (lowered p)) c.args.mtu c.args.number 0) c.args.out.now.items c.push_pieces6.new.out.items c.in_ok-count.count
    (ap (λ (x : Packet6). fragments6 x c.args.mtu c.args.number 0) whole) c.in_ok-count.ensures.pushed
