use Rattle.std.proofs.Common.{◌≡◌, ◌+◌, ◌/◌, ap, ◌∙◌, arith}
use Rattle.std.specs.Prelude.{slice_index}
use Rattle.table_words.proofs.Groups.{index_small, span_is, group_is}
use Rattle.table_words.proofs.searches.group_of.Goals as goal

pub overflow_cast-from : goal.overflow_cast-from
overflow_cast-from g c =
    let small = index_small _ _ c.requires.of_table (c.args.v4.0 / 65536) (omega arith) in
    omega (arith, c.word-from.ensures.value, small)

pub overflow_cast-to : goal.overflow_cast-to
overflow_cast-to g c =
    let h = c.requires.of_table in
    let from = c.word-from.ensures in
    let to : c.word-to.result ≡ slice_index (g.W.Words.list c.args.words.now) (9 + c.args.v4.0 / 65536) =
    c.word-to.ensures.value ∙ ap (λ ws. slice_index ws (9 + c.args.v4.0 / 65536)) from.list in
    let span = span_is _ _ h c.args.v4.0 c.word-from.result c.word-to.result (omega arith) from.value to in
    omega (arith, span.few)

pub returns-clause-span : goal.returns-clause-span
returns-clause-span g c =
    let from = c.word-from.ensures in
    let to : c.word-to.result ≡ slice_index (g.W.Words.list c.args.words.now) (9 + c.args.v4.0 / 65536) =
    c.word-to.ensures.value ∙ ap (λ ws. slice_index ws (9 + c.args.v4.0 / 65536)) from.list in
    span_is _ _ c.requires.of_table c.args.v4.0 _ _ (omega arith) from.value to

pub returns-clause-group : goal.returns-clause-group
returns-clause-group g c = λ t h.
    let from = c.word-from.ensures in
    let to : c.word-to.result ≡ slice_index (g.W.Words.list c.args.words.now) (9 + c.args.v4.0 / 65536) =
    c.word-to.ensures.value ∙ ap (λ ws. slice_index ws (9 + c.args.v4.0 / 65536)) from.list in
    group_is _ _ h c.args.v4.0 _ _ (omega arith) from.value to
