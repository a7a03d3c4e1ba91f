-- What the packet's item is sent as.
use Rattle.std.proofs.Common.{arith}
use Rattle.ip_codec.specs.Packet4.{packet4}
use Rattle.run_output.proofs.OutLemmas.{has_packet, packet_alive, packet_is}
use Rattle.run_output.proofs.rendering.push_packet.Goals as goal

pub packet-packet-requires-clause-inside : goal.packet-packet-requires-clause-inside
packet-packet-requires-clause-inside c = omega (arith, c.requires.can.inside, c.args.round.now.same)

pub packet-packet-requires-clause-known : goal.packet-packet-requires-clause-known
packet-packet-requires-clause-known c =
    let round = c.args.round.now in
    has_packet round.items.now c.args.index c.args.verdict.now c.requires.forwarded (omega (arith, c.requires.can.inside, round.same)) c.requires.can.fits

pub push_forwarded-requires-clause-alive : goal.push_forwarded-requires-clause-alive
push_forwarded-requires-clause-alive c =
    let round = c.args.round.now in
    packet_alive round.items.now c.args.index c.args.verdict.now c.requires.forwarded (omega (arith, c.requires.can.inside, round.same)) c.requires.can.fits
    (packet4 c.packet-packet.result.view) c.packet-packet.ensures

pub returns : goal.returns
returns c = record {
  pushed = λ i there.
      let is = packet_is c.args.round.now.items.now c.args.index (packet4 c.packet-packet.result.view) i c.packet-packet.ensures there in
      record { bytes = c.in_ok-count.ensures.bytes i is; many = c.in_ok-count.ensures.count i is };
  few = c.in_ok-count.ensures.few;
}
