-- What is recorded is what the definition names, by whether the packet fits.
use Rattle.std.proofs.Common.{◌<◌, ◌≤◌, ◌∷◌, [], arith}
use Rattle.capture_io.specs.Packets.{packet_bytes}
use Rattle.fragmenter.specs.Pieces4.{fragments4}
use Rattle.ip_codec.specs.Packet4.{packet4, packet_len}
use Rattle.softwire_encap.specs.Passing.{lowered}
use Rattle.packet_render.specs.Pushed.{one_hop_on}
use Rattle.packet_render.specs.Sent.{outward}
use Rattle.packet_render.proofs.PushLemmas.{same_pushed}
use Rattle.packet_render.proofs.SentLemmas.{outward-cut, outward-whole}
use Rattle.packet_render.proofs.forwarding.push_packet_outward.Goals as goal

pub returns-then-total_len-from-clause-pushed : goal.returns-then-total_len-from-clause-pushed
returns-then-total_len-from-clause-pushed c =
    let packet = c.args.packet.now in
    let p = packet4 packet.view in
    let mtu = c.args.mtu in
    let record_of = packet_bytes c.args.stamp.form c.args.stamp.seconds c.args.stamp.fraction in
    let fits : packet_len p ≤ mtu = omega (arith, c.if-total_len-from.true, c.total_len.ensures, c.from.ensures) in
    same_pushed record_of (lowered p ∷ []) (outward mtu p) c.args.out.now.items c.push_whole_outward.new.out.items c.in_ok-count.count
    (outward-whole p mtu packet.alone fits) c.in_ok-count.ensures.pushed

pub returns-clause-pushed : goal.returns-clause-pushed
returns-clause-pushed c =
    let packet = c.args.packet.now in
    let p = packet4 packet.view in
    let mtu = c.args.mtu in
    let record_of = packet_bytes c.args.stamp.form c.args.stamp.seconds c.args.stamp.fraction in
    let long : mtu < packet_len p = omega (arith, c.if-total_len-from.false, c.total_len.ensures, c.from.ensures) in
    same_pushed record_of (fragments4 (one_hop_on p) mtu 0) (outward mtu p) c.args.out.now.items c.push_cut_outward.new.out.items c.in_ok-count-2.count
    (outward-cut p mtu packet.alone long) c.in_ok-count-2.ensures.pushed
