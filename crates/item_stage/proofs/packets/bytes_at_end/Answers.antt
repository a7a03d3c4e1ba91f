use Rattle.std.proofs.Common.{◌≡◌, true, is_some, Option, sym, subst}
use Rattle.ip_codec.specs.Packet4.{ip4_of}
use Rattle.ipv6_chain.specs.declared.headers.Frag.{Frag}
use Rattle.item_stage.specs.Alone.{at_end, item_alone}
use Rattle.item_stage.specs.Packets.{if_packet, packet_in}
use Rattle.item_stage.proofs.WholeLemmas.{end_at_once}
use Rattle.item_stage.proofs.packets.bytes_at_end.Goals as goal

pub returns-in-None : goal.returns-in-None
returns-in-None c = λ outer known.
    let next = c.args.chain.next in
    let bytes = c.args.bytes.now in
    let Known : Option Frag → Type 0 = λ fragment.
    is_some (packet_in (item_alone (at_end outer next bytes fragment))) ≡ true → packet_in (item_alone (at_end outer next bytes fragment)) ≡ if_packet (ip4_of bytes) in
    subst Known (sym c.in-None.is) (end_at_once outer next bytes) known
