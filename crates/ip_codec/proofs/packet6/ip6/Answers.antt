-- The version is the first four bits of the first word.
use Rattle.std.proofs.Common.{◌≡◌, ◌/◌, ◌≤◌, arith, rules, slice_index, subst, sym}
use Rattle.ip_codec.specs.Packet6.{IsBounded6, payload_len}
use Rattle.ip_codec.proofs.Packet6Lemmas.{bounded-fields6}
use Rattle.ip_codec.proofs.packet6.ip6.Goals as goal

pub returns-clause-bounded : goal.returns-clause-bounded
returns-clause-bounded c =
    let first : slice_index c.args.bytes.now 0 / 16 ≡ 6 = search rules in
    let few : payload_len c.args.bytes.now ≤ 65535 = search rules in
    subst IsBounded6 (sym c.view_of.ensures)
    (bounded-fields6 c.args.bytes.now (search rules) few first (λ i. omega (arith, c.type_inv.bytes i)))
