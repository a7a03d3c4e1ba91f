-- The bytes are sealed, and such bytes sum to 0.
use Rattle.std.proofs.Common.{◌≡◌, ap, ◌∙◌}
use Rattle.aftr_base.specs.Numbers.{with_word}
use Rattle.aftr_base.specs.Sums.{checksum, sealed}
use Rattle.aftr_base.proofs.NumberLemmas.{with_word-with_word}
use Rattle.aftr_base.proofs.SumLemmas.{checksum-sealed}
use Rattle.aftr_base.proofs.sums.put_checksum.Goals as goal

pub returns-clause-sums : goal.returns-clause-sums
returns-clause-sums c = λ even.
    let bytes = c.args.bytes.now in
    let at = c.args.at in
    let is_sealed : c.put_be16-2.new.bytes ≡ sealed bytes at =
    rw (c.put_be16-2.ensures, c.sum16-sum.ensures, c.put_be16.ensures)
    (with_word-with_word bytes at 0 (checksum (with_word bytes at 0)) c.requires) in
    ap checksum is_sealed ∙ checksum-sealed bytes at even c.requires
