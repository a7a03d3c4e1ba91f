-- What is recorded is what the definition names, by whether the tunnel packet fits.
use Rattle.std.proofs.Common.{◌+◌, ◌<◌, ◌≤◌, ◌∷◌, [], arith}
use Rattle.capture_io.specs.Packets.{packet_bytes}
use Rattle.fragmenter.specs.Pieces6.{fragments6}
use Rattle.ip_codec.specs.Packet4.{packet4, packet_len}
use Rattle.softwire_encap.specs.Passing.{lowered}
use Rattle.softwire_encap.specs.Tunnel.{tunnelled, wrapped}
use Rattle.packet_render.specs.Sent.{inward}
use Rattle.packet_render.proofs.PushLemmas.{same_pushed}
use Rattle.packet_render.proofs.SentLemmas.{inward-cut, inward-whole}
use Rattle.packet_render.proofs.forwarding.push_packet_inward.Goals as goal

pub returns-then-total_len-from-clause-pushed : goal.returns-then-total_len-from-clause-pushed
returns-then-total_len-from-clause-pushed c =
    let packet = c.args.packet.now in
    let p = packet4 packet.view in
    let mtu = c.args.mtu in
    let tunnel = c.args.tunnel in
    let record_of = packet_bytes c.args.stamp.form c.args.stamp.seconds c.args.stamp.fraction in
    let fits : 40 + packet_len p ≤ mtu = omega (arith, c.if-total_len-from.true, c.total_len.ensures, c.from.ensures) in
    same_pushed record_of (wrapped tunnel.from tunnel.to tunnel.hop (lowered p) ∷ []) (inward tunnel.from tunnel.to tunnel.hop mtu c.args.number p) c.args.out.now.items
    c.push_whole_inward.new.out.items c.in_ok-count.count (inward-whole p mtu packet.alone tunnel.from tunnel.to tunnel.hop c.args.number fits)
    c.in_ok-count.ensures.pushed

pub returns-clause-pushed : goal.returns-clause-pushed
returns-clause-pushed c =
    let packet = c.args.packet.now in
    let p = packet4 packet.view in
    let mtu = c.args.mtu in
    let tunnel = c.args.tunnel in
    let record_of = packet_bytes c.args.stamp.form c.args.stamp.seconds c.args.stamp.fraction in
    let long : mtu < 40 + packet_len p = omega (arith, c.if-total_len-from.false, c.total_len.ensures, c.from.ensures) in
    same_pushed record_of (fragments6 (tunnelled tunnel.from tunnel.to tunnel.hop (lowered p)) mtu c.args.number 0)
    (inward tunnel.from tunnel.to tunnel.hop mtu c.args.number p) c.args.out.now.items c.push_cut_inward.new.out.items c.in_ok-count-2.count
    (inward-cut p mtu packet.alone tunnel.from tunnel.to tunnel.hop c.args.number long) c.in_ok-count-2.ensures.pushed
