use Rattle.std.proofs.Common.{◌∙◌, ap, sym}
use Rattle.std.proofs.lemmas.Bool.{not-true}
use Rattle.std.proofs.lemmas.List.{take_rest}
use Rattle.item_stage.specs.Looks.{is_extension, is_uncut}
use Rattle.item_stage.proofs.LookLemmas.{tunnel_whole}
use Rattle.item_stage.proofs.looking.carries_whole.Goals as goal

pub returns-then-next-eq-IPV4_IN_IPV6 : goal.returns-then-next-eq-IPV4_IN_IPV6
returns-then-next-eq-IPV4_IN_IPV6 c looked =
    let packet = c.args.packet.now in
    tunnel_whole packet (ap is_extension c.if-next-eq-IPV4_IN_IPV6.true)
    (λ _. sym (ap is_uncut (take_rest packet 40)) ∙ (sym c.is_uncut.ensures ∙ looked))

pub returns : goal.returns
returns c looked =
    tunnel_whole c.args.packet.now (sym c.is_extension.ensures ∙ not-true c.is_extension.result looked)
    (λ four_is. absurd (c.if-next-eq-IPV4_IN_IPV6.false four_is))
