-- Two lists in the front of one.
use Rattle.std.proofs.Common.{◌+◌, ◌-◌, length, ap}
use Rattle.icmp_errors.proofs.PushLemmas.{put_behind}
use Rattle.icmp_errors.proofs.policy6.joined.Goals as goal

pub returns : goal.returns
returns c =
    put_behind 40 (length c.args.header.now) (40 + length c.args.header.now - 40) c.copy_from_slice.new.self _ c.copy_from_slice-2.new.self c.args.tunnel.now c.args.header.now
    c.copy_from_slice.ensures.len (ap length c.copy_from_slice-2.ensures.after) c.copy_from_slice.ensures.after c.copy_from_slice-2.ensures.after
