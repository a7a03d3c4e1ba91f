-- The frame is that of an enhanced packet block, and so the block is the packet, wherever it stands.
use Rattle.std.proofs.Common.{Bool, Ok, None, sym, ◌∙◌, ap, subst}
use Rattle.pcapng_io.specs.Files.{IsSound}
use Rattle.pcapng_io.specs.declared.block.Known.{Known}
use Rattle.pcapng_io.proofs.PlainLemmas.{said_anywhere, sound_anywhere}
use Rattle.pcapng_io.proofs.fronts.plain_by_order.Goals as goal

abbrev somewhere : Bool → Known
somewhere big = record { at = 0; big = big; link = None; seconds = 0; nanos = 0 }

pub returns-in-Packet-clause-says : goal.returns-in-Packet-clause-says
returns-in-Packet-clause-says c =
    said_anywhere (somewhere c.args.big) c.args.big c.args.interfaces.now c.args.first.now c.in-Some.total c.in-Packet.packet
    c.in-Some.ensures.least c.in-Some.ensures.whole c.in-Some.ensures.is
    (sym c.enhanced_of.ensures.says ∙ (c.in-Ok.is ∙ ap Ok c.in-Packet.is))

pub returns-in-Packet-clause-sound : goal.returns-in-Packet-clause-sound
returns-in-Packet-clause-sound c = sound_anywhere c.in-Packet.packet (subst (IsSound 0) c.in-Packet.is (c.in-Ok.ensures.sound))
