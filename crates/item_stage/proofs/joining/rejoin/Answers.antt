use Rattle.std.proofs.Common.{◌≡◌, ◌-◌, ◌++◌, List, [], ℕ, length, length-drop, ◌∙◌, ap, arith}
use Rattle.ip_codec.specs.Packet4.{header4}
use Rattle.ip_codec.specs.declared.packet4.Head4.{Head4}
use Rattle.item_stage.proofs.RowLemmas.{rejoined_is}
use Rattle.item_stage.proofs.WholeLemmas.{made_packet}
use Rattle.item_stage.proofs.joining.rejoin.Goals as goal

-- what was pushed is the header
header_is : (fields : Head4) (options body seen before after header : List ℕ) → header ≡ after → after ≡ before ++ header4 fields options (length seen) → before ≡ [] → seen ≡ body →
    header ≡ header4 fields options (length body)
header_is fields options body seen before after header taken pushed none same = taken ∙ (pushed ∙ (λ i. none i ++ header4 fields options (length (same i))))

pub invariant_of-result : goal.invariant_of-result
invariant_of-result c =
    let fields = c.head_fields-fields.result in
    let options = c.options_of.result.now in
    let size : length options ≡ length c.args.head.now - 20 = ap length c.options_of.ensures ∙ length-drop 20 c.args.head.now in
    let first : fields.offset ≡ 0 = ap (λ (h : Head4). h.offset) c.head_fields-fields.ensures in
    record {
      read = made_packet fields options c.of.result c.args.body
          (header_is fields options c.args.body c.as_slice.result.now c.in_ok-header.header.items c.push_head4.new.out.items c.of.result
          c.of.ensures c.in_ok-push_head4.ensures.bytes c.in_ok-header.ensures.items c.as_slice.ensures)
          (omega arith) (omega arith) (omega (arith, first)) (omega (arith, size, c.requires.header.words, c.requires.header.least))
          (omega (arith, size, c.requires.header.most)) (omega (arith, size, c.requires.header.least, c.requires.most)) (omega arith) (omega arith) (omega arith) (omega arith);
    }

pub returns : goal.returns
returns c =
    let fields = c.head_fields-fields.result in
    let options = c.options_of.result.now in
    rejoined_is fields options c.args.head.now c.args.body (c.of.result ++ c.args.body)
    (ap (λ (l : List ℕ). l ++ c.args.body)
    (header_is fields options c.args.body c.as_slice.result.now c.in_ok-header.header.items c.push_head4.new.out.items c.of.result
    c.of.ensures c.in_ok-push_head4.ensures.bytes c.in_ok-header.ensures.items c.as_slice.ensures))
    c.options_of.ensures c.head_fields-fields.ensures
