use Rattle.std.proofs.Common.{◌-◌, length, take, drop, sym, ◌∙◌}
use Rattle.std.proofs.lemmas.List.{take_rest}
use Rattle.item_stage.proofs.WholeLemmas.{fragment_known}
use Rattle.item_stage.proofs.packets.bytes_behind_fragment.Goals as goal

pub returns-in-Ok : goal.returns-in-Ok
returns-in-Ok c = λ outer known.
    let body = c.args.body.now in
    let at = c.in-Ok.chain.at in
    fragment_known outer c.args.next body (take (length body - at) (drop at body)) c.in-Ok.chain (sym c.walk.ensures.chain ∙ c.in-Ok.is) (take_rest body at) known
