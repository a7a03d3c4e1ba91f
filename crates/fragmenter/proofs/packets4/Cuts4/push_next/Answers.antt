-- The first of the pieces that were left is written.
use Rattle.std.proofs.Common.{◌≡◌, ◌+◌, ◌-◌, ◌<◌, length, take, drop, nat_lt, refl, ap, arith}
use Rattle.std.proofs.lemmas.List.{length-drop}
use Rattle.ip_codec.specs.Packet4.{packet4}
use Rattle.fragmenter.specs.Pieces4.{piece4, room4}
use Rattle.fragmenter.proofs.CutLemmas.{first-piece, some-bytes}
use Rattle.fragmenter.proofs.PieceLemmas.{rooms4, piece4-written}
use Rattle.fragmenter.proofs.packets4.Cuts4.push_next.Goals as goal

pub returns-clause-written : goal.returns-clause-written
returns-clause-written c =
    let cuts = c.args.self.now in
    let packet = packet4 cuts.packet in
    let before = cuts.before in
    let len = c.part_len.result in
    let body = packet.payload in
    let more = nat_lt (before + len) (length body) in
    let out = c.args.out.now.items in
    let some = some-bytes (room4 packet cuts.mtu) (piece4 packet) before (drop before body) c.requires in
    let inside : before < length body = omega (arith, some, length-drop before body) in
    let part : take (before + len - before) (drop before body) ≡ take len (drop before body) = ap (λ n. take n (drop before body)) (omega arith) in
    record {
      first = piece4 packet before more (take len (drop before body));
      is = first-piece (room4 packet cuts.mtu) (rooms4 packet cuts.mtu cuts.least_mtu cuts.most_header cuts.header_words) (piece4 packet) body before len more inside c.part_len.ensures.part refl;
      written = piece4-written out c.options-options.result.now (take (before + len - before) (drop before body))
          (take len (drop before body)) c.push_head4.new.out.items c.extend_from_slice.new.self.items packet before more c.head_of-head.result
          c.head_of-head.ensures c.options-options.ensures.are part c.in_ok-push_head4.ensures.bytes c.in_ok-extend_from_slice.ensures.items;
    }
