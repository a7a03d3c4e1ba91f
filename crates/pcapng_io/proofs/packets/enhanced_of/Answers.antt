use Rattle.std.proofs.Common.{◌<◌, length, get_or, arith}
use Rattle.std.proofs.lemmas.Bool.Decides.{nat_tests}
use Rattle.std.proofs.lemmas.List.{get_or_default}
use Rattle.pcapng_io.specs.Seen.{seen_by}
use Rattle.pcapng_io.proofs.KindLemmas.{packet_said}
use Rattle.pcapng_io.proofs.packets.enhanced_of.Goals as goal

pub returns-clause-says : goal.returns-clause-says
returns-clause-says c =
    let known : c.word-sender.result < length c.args.interfaces.now = grind (arith, nat_tests) in
    packet_said (seen_by c.args.known c.args.interfaces.now) c.args.front.now c.args.number c.args.frame c.word-sender.result c.word-count.result c.ticks_of-ticks.result
    (get_or c.args.interfaces.now c.word-sender.result (record { ticks = 0; most = 0 })) c.time_of-time.result
    c.word-sender.ensures c.word-count.ensures (omega (arith, c.ticks_of-ticks.ensures, c.word.ensures, c.word-2.ensures)) c.time_of-time.ensures.is
    (get_or_default c.args.interfaces.now c.word-sender.result (record { ticks = 0; most = 0 }) (record { ticks = 1; most = 0 }) known)
    known (grind (arith, nat_tests)) (grind (arith, nat_tests)) (grind (arith, nat_tests)) (grind (arith, nat_tests))
