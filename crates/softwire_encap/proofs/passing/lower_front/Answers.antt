-- The patched checksum is the one computed anew.
use Rattle.std.proofs.Common.{◌≡◌, ◌+◌, ◌*◌, ◌-◌, ◌∙◌, List, ℕ, ap, arith, drop, length}
use Rattle.aftr_base.specs.Sums.{patched}
use Rattle.ip_codec.specs.Packet4.{packet4, word}
use Rattle.softwire_encap.proofs.FrontLemmas.{front-lowered, with_front}
use Rattle.softwire_encap.proofs.passing.lower_front.Goals as goal

pub returns : goal.returns
returns c =
    let packet = packet4 c.args.p.now in
    let behind : List ℕ = drop (length packet.header) c.args.bytes.now in
    let was = packet.ttl * 256 + packet.protocol in
    let less : was - 256 ≡ (packet.ttl - 1) * 256 + packet.protocol = omega (arith, c.requires.alive) in
    ap (λ l. with_front l (packet.ttl - 1) c.patched_sum-sum.result) c.requires.begun
    ∙ front-lowered packet behind c.patched_sum-sum.result c.requires.whole c.requires.alive (omega arith) (omega arith) (omega arith)
    (c.patched_sum-sum.ensures was (omega (arith, c.requires.alive)) (omega arith)
    ∙ (ap (λ n. patched n was (was - 256)) c.be16.ensures ∙ ap (λ n. patched (word packet.header 10) was n) less))
