-- The first of the fragments that were left is written.
use Rattle.std.proofs.Common.{◌≡◌, ◌+◌, ◌-◌, ◌<◌, ◌++◌, length, take, drop, nat_lt, refl, ◌∙◌, ap, arith}
use Rattle.std.proofs.lemmas.List.{length-drop}
use Rattle.ip_codec.specs.Packet6.{packet6}
use Rattle.fragmenter.specs.Pieces6.{piece6, room6, with_rest}
use Rattle.fragmenter.proofs.CutLemmas.{first-piece, some-bytes}
use Rattle.fragmenter.proofs.PartLemmas.{part-joined}
use Rattle.fragmenter.proofs.PieceLemmas.{rooms6}
use Rattle.fragmenter.proofs.packets6.Cuts6.push_next.Goals as goal

pub returns-clause-written : goal.returns-clause-written
returns-clause-written c =
    let cuts = c.args.self.now in
    let packet = with_rest (packet6 cuts.packet) cuts.rest.now in
    let before = cuts.before in
    let len = c.part_len-len.result in
    let body = packet.body in
    let more = nat_lt (before + len) (length body) in
    let out = c.args.out.now.items in
    let some = some-bytes (room6 cuts.mtu) (piece6 packet cuts.id) before (drop before body) c.requires in
    let inside : before < length body = omega (arith, some, length-drop before body) in
    let behind : c.saturating_sub-behind.result ≡ before - length cuts.packet.body.now = omega (arith, c.saturating_sub-behind.ensures) in
    let part = part-joined cuts.packet.body.now cuts.rest.now before len c.part_of-first.result.now c.part_of-second.result.now
    c.part_of-first.ensures (c.part_of-second.ensures ∙ ap (λ n. take (len - length c.part_of-first.result.now) (drop n cuts.rest.now)) behind) in
    let more_is : nat_lt (before + len) c.body_len.result ≡ more = ap (λ n. nat_lt (before + len) n) c.body_len.ensures in
    record {
      first = piece6 packet cuts.id before more (take len (drop before body));
      is = first-piece (room6 cuts.mtu) (rooms6 cuts.mtu cuts.least_mtu) (piece6 packet cuts.id) body before len more inside c.part_len-len.ensures.part refl;
      written = c.in_ok-push_piece6.ensures.bytes ∙ (λ i. out ++ piece6 packet cuts.id before (more_is i) (part i));
    }
