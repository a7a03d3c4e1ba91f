-- What stood there stands still where the error or its end found no memory.
use Rattle.std.proofs.Common.{refl}
use Rattle.ip_codec.specs.Packet4.{packet4}
use Rattle.packet_render.specs.Told.{told_bytes}
use Rattle.packet_render.proofs.PushLemmas.{kept_after, kept_alone}
use Rattle.packet_render.proofs.replying.push_error.Goals as goal

pub returns-in_err-push_told-clause-kept : goal.returns-in_err-push_told-clause-kept
returns-in_err-push_told-clause-kept c = λ failed.
    kept_alone c.args.out.now.items c.push_front.new.out.items c.push_told.new.out.items c.push_front.ensures.kept c.in_err-push_told.ensures.bytes

pub returns-in_err-push_tail-clause-kept : goal.returns-in_err-push_tail-clause-kept
returns-in_err-push_tail-clause-kept c = λ failed.
    kept_after (told_bytes c.args.own c.args.told (packet4 c.args.p.now)) c.args.out.now.items c.push_front.new.out.items c.push_told.new.out.items
    c.push_tail.new.out.items c.push_front.ensures.kept c.in_ok-push_told.ensures.bytes (c.in_err-push_tail.ensures.kept refl)
