-- At first all fragments are left.
use Rattle.std.proofs.Common.{◌++◌, ◌∙◌, ap}
use Rattle.ip_codec.specs.Packet6.{packet6}
use Rattle.fragmenter.specs.Left6.{left6}
use Rattle.fragmenter.proofs.PieceLemmas.{fragments-alone}
use Rattle.fragmenter.proofs.packets6.cut_view.Goals as goal

pub pieces-init : goal.pieces-init
pieces-init c =
    ap (λ l. l ++ left6 c.of-cuts.result) c.new-list.ensures.items
    ∙ (c.of-cuts.ensures.left ∙ fragments-alone (packet6 c.args.packet.now) c.args.mtu c.args.id)
