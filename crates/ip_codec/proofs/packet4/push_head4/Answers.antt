use Rattle.std.proofs.Common.{◌+◌, length}
use Rattle.ip_codec.proofs.PartLemmas.{header-appended}
use Rattle.ip_codec.proofs.packet4.push_head4.Goals as goal

pub returns-clause-bytes : goal.returns-clause-bytes
returns-clause-bytes c =
    let header_len = 20 + length c.args.options.now in
    header-appended c.args.out.now.items c.args.options.now c.extend_from_slice.new.self.items c.extend_from_slice-2.new.self.items
    c.put_be16.new.bytes c.fixed_part-fixed.result c.sum_of_both-sum.result c.args.head.now header_len (header_len + c.args.payload_len)
    c.fixed_part-fixed.ensures.bytes c.sum_of_both-sum.ensures c.put_be16.ensures
    c.in_ok-extend_from_slice.ensures.items c.in_ok-extend_from_slice-2.ensures.items
