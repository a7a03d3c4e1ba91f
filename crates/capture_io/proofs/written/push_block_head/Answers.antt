use Rattle.std.proofs.Common.{◌/◌, ◌%◌, ◌^◌, ◌++◌, ◌∙◌, ap}
use Rattle.capture_io.specs.Packets.{block_words}
use Rattle.capture_io.proofs.written.push_block_head.Goals as goal

pub returns-clause-bytes : goal.returns-clause-bytes
returns-clause-bytes c =
    let high = c.high_half.ensures ∙ ap (λ time. time / 2 ^ 32) c.ticks_of-time.ensures in
    let low = c.low_half.ensures ∙ ap (λ time. time % 2 ^ 32) c.ticks_of-time.ensures in
    c.in_ok-extend_from_slice.ensures.items
    ∙ ap (λ l. c.args.out.now.items ++ l) (c.head_words-head.ensures ∙ (λ i. block_words (c.block_len_of.ensures i) (high i) (low i) c.args.count))
