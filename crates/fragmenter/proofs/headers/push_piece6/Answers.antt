-- Three appends, one behind the other, are the append of the fragment.
use Rattle.std.proofs.Common.{◌≡◌, ◌+◌, ◌++◌, length, ◌∙◌, arith}
use Rattle.std.proofs.lemmas.List.{length-append}
use Rattle.ip_codec.specs.Packet6.{header6, packet6}
use Rattle.fragmenter.specs.Pieces6.{fragment_bytes, fragment_head}
use Rattle.fragmenter.proofs.CutLemmas.{appended}
use Rattle.fragmenter.proofs.headers.push_piece6.Goals as goal

pub returns-clause-bytes : goal.returns-clause-bytes
returns-clause-bytes c =
    let packet = packet6 c.args.packet.now in
    let out = c.args.out.now.items in
    let part = c.args.first.now ++ c.args.second.now in
    let fragment = fragment_bytes packet.next c.args.before c.args.more c.args.id in
    let head_is = c.fragment_head-head.ensures in
    let len_is : 8 + (length c.args.first.now + length c.args.second.now) ≡ length (fragment ++ part) =
    omega (arith, length-append c.args.first.now c.args.second.now) in
    appended out (header6 (fragment_head packet) (length (fragment ++ part))) _ _ (fragment ++ part)
    (c.in_ok-push_head6.ensures.bytes ∙ (λ i. out ++ header6 (head_is i) (len_is i)))
    (appended c.push_head6.new.out.items fragment _ _ part c.in_ok-push_fragment_header.ensures.bytes c.in_ok-push_part.ensures.bytes)
