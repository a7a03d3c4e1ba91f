-- The first of the fragments that are left.
use Rattle.std.proofs.Common.{◌≡◌, ◌+◌, ◌<◌, length, take, drop, nat_lt, refl, arith}
use Rattle.std.proofs.lemmas.List.{length-append, length-take-le, length-drop}
use Rattle.ip_codec.specs.Packet6.{packet6}
use Rattle.fragmenter.specs.Pieces6.{piece6, room6, fragments6, with_rest}
use Rattle.fragmenter.proofs.CutLemmas.{first-piece}
use Rattle.fragmenter.proofs.PieceLemmas.{rooms6}
use Rattle.fragmenter.proofs.packets6.Cuts6.next_len.Goals as goal

pub returns-else-self-body_len-clause-first : goal.returns-else-self-body_len-clause-first
returns-else-self-body_len-clause-first c =
    let cuts = c.args.self.now in
    let packet = with_rest (packet6 cuts.packet) cuts.rest.now in
    let before = cuts.before in
    let len = c.part_len.result in
    let body = packet.body in
    let more = nat_lt (before + len) (length body) in
    let long : length body ≡ length cuts.packet.body.now + length cuts.rest.now = length-append cuts.packet.body.now cuts.rest.now in
    let inside : before < length body = omega (arith, c.if-self-body_len.false, c.body_len.ensures, long, cuts.place) in
    record {
      first = piece6 packet cuts.id before more (take len (drop before body));
      rest = fragments6 packet cuts.mtu cuts.id (before + len);
      is = first-piece (room6 cuts.mtu) (rooms6 cuts.mtu cuts.least_mtu) (piece6 packet cuts.id) body before len more inside c.part_len.ensures.part refl;
      len_is = omega (arith, length-take-le len (drop before body), length-drop before body, c.part_len.ensures.within);
    }
