-- A piece has an even length, so its words and those behind it are the words that were left.
use Rattle.std.proofs.Common.{◌≡◌, ◌+◌, ◌%◌, ◌++◌, length, ap, ◌∙◌, arith, refl}
use Rattle.std.proofs.lemmas.List.{take-append-drop}
use Rattle.aftr_base.specs.Sums.{folded, word_sum}
use Rattle.aftr_base.proofs.SumLemmas.{folded_pieces}
use Rattle.aftr_base.proofs.sums.sum16.Goals as goal

pub pieces-preserved : goal.pieces-preserved
pieces-preserved c =
    let rest = c.pieces.rest.now in
    let first = c.split_at.result.0.now in
    let after = c.split_at.result.1.now in
    let even : length first % 2 ≡ 0 = rw c.split_at.ensures.front_len refl in
    let whole : first ++ after ≡ rest = rw (c.split_at.ensures.front, c.split_at.ensures.back) (take-append-drop 65536 rest) in
    record {
      same = rw (c.fold-sum.ensures, c.from.ensures)
          (folded_pieces c.pieces.sum c.partial_sum.result first after even c.partial_sum.ensures.same
          ∙ ap (λ l. folded (c.pieces.sum + word_sum l)) whole
          ∙ c.pieces.invariant.same);
      small = omega arith;
    }
