-- The item that is read is the one at the index.
use Rattle.std.proofs.Common.{◌≡◌, ◌∙◌, Some, sym, subst}
use Rattle.capture_io.specs.Packets.{packet_bytes}
use Rattle.ip_codec.specs.Seen.{seen}
use Rattle.ip_codec.specs.declared.items.Item.{Item}
use Rattle.packet_render.specs.Pushed.{ArePushed}
use Rattle.packet_render.specs.Sent.{sent}
use Rattle.run_output.proofs.rendering.push_item.Goals as goal

pub returns : goal.returns
returns c =
    let read = seen c.item-item.result in
    record {
      pushed = λ i there.
          let both : Some read ≡ Some i = sym c.item-item.ensures ∙ there in
          let same : read ≡ i = cc in
          subst (λ (j : Item). ArePushed (packet_bytes c.args.round.now.written c.args.seconds c.args.fraction) (sent j c.args.verdict.now c.args.number)
          c.args.packets.now.items c.push_packets.new.out.items c.in_ok-count.count) same
          (record { bytes = c.in_ok-count.ensures.bytes; many = c.in_ok-count.ensures.count });
      few = c.in_ok-count.ensures.few;
    }
