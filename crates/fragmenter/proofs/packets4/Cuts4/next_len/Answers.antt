-- The first of the pieces that are left.
use Rattle.std.proofs.Common.{◌+◌, ◌<◌, length, take, drop, nat_lt, refl, ◌∙◌, ap, arith}
use Rattle.std.proofs.lemmas.List.{length-take-le, length-drop}
use Rattle.ip_codec.specs.Packet4.{packet4}
use Rattle.fragmenter.specs.Pieces4.{piece4, room4, fragments4}
use Rattle.fragmenter.proofs.CutLemmas.{first-piece}
use Rattle.fragmenter.proofs.PieceLemmas.{rooms4, length-piece4}
use Rattle.fragmenter.proofs.packets4.Cuts4.next_len.Goals as goal

pub returns-else-self-clause-first : goal.returns-else-self-clause-first
returns-else-self-clause-first c =
    let cuts = c.args.self.now in
    let packet = packet4 cuts.packet in
    let before = cuts.before in
    let len = c.part_len.result in
    let body = packet.payload in
    let more = nat_lt (before + len) (length body) in
    let inside : before < length body = omega (arith, c.if-self.false, cuts.place) in
    record {
      first = piece4 packet before more (take len (drop before body));
      rest = fragments4 packet cuts.mtu (before + len);
      is = first-piece (room4 packet cuts.mtu) (rooms4 packet cuts.mtu cuts.least_mtu cuts.most_header cuts.header_words) (piece4 packet) body before len more inside c.part_len.ensures.part refl;
      len_is = length-piece4 packet before more (take len (drop before body))
          ∙ omega (arith, ap length c.options.ensures.are, length-take-le len (drop before body), length-drop before body, c.part_len.ensures.within);
    }
