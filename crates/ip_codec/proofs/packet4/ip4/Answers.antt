-- What is read lies in the front of the bytes, and is read again from there.
use Rattle.std.proofs.Common.{◌++◌, ◌*◌, Ok, ◌∙◌, ap, sym, arith, rules, slice_index}
use Rattle.std.proofs.lemmas.Nat.{and_mask}
use Rattle.ip_codec.specs.Packet4.{ip4_of}
use Rattle.ip_codec.proofs.Packet4Lemmas.{front-parts, ip4_of-parts}
use Rattle.ip_codec.proofs.packet4.ip4.Goals as goal

pub returns-clause-front : goal.returns-clause-front
returns-clause-front c =
    let same = c.view_of.ensures in
    front-parts c.args.bytes.now _ _ (4 * c.from-header_len.result) c.from-total_len.result (omega arith) (omega arith)
    (ap (λ p. p.header) same) (ap (λ p. p.payload) same)

pub returns-clause-alone : goal.returns-clause-alone
returns-clause-alone c =
    let same = c.view_of.ensures in
    ap (λ p. ip4_of (p.header ++ p.payload)) same
    ∙ ip4_of-parts c.args.bytes.now (4 * c.from-header_len.result) c.from-total_len.result (search rules)
    (ap (λ n. 4 * n) (sym (c.from-header_len.ensures ∙ and_mask (slice_index c.args.bytes.now 0) 4))) (search rules)
    (omega arith) (omega arith) (omega arith) (search rules)
    ∙ ap Ok (sym same)
