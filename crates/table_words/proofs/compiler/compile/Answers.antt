use Rattle.std.proofs.Common.{◌≡◌, ◌++◌, map, length, subst, sym, rules, ap, ◌∙◌, arith}
use Rattle.std.specs.List.Sorted.{IsPermutation}
use Rattle.std.proofs.lemmas.List.{length-map}
use Rattle.std.proofs.lemmas.List.Sorted.{length_permutation}
use Rattle.table_words.specs.Layout.{IsCompiled, IsRanged, is_mixed, row}
use Rattle.table_words.specs.Parts.{AreUnmarked, TellsMixed, settings_words, index_words, entry_words}
use Rattle.table_words.proofs.Compiling.{compiled_is, words_are}
use Rattle.table_words.proofs.TwoShapes.{rows_unmarked, tells_mixed}
use Rattle.table_words.proofs.compiler.compile.Goals as goal

pub returns-clause-words : goal.returns-clause-words
returns-clause-words c =
    let t = c.args.table.now in
    let rows = c.in_ok-rows.rows.items in
    let mixed = is_mixed t.bindings in
    let same = subst (λ bs. IsPermutation (map row bs) rows) c.bindings-bindings.ensures.value c.in_ok-rows.ensures.same in
    let tells = tells_mixed t c.softwire.ensures.lawful rows same in
    let entries = c.in_ok-put_entries.ensures mixed (subst (λ rs. TellsMixed rs mixed) (sym c.deref-2.ensures.value) tells)
    ∙ ap (λ l. c.put_index.new.words.items ++ entry_words mixed l) c.deref-2.ensures.value in
    let index = c.in_ok-put_index.ensures ∙ ap (λ l. c.put_settings.new.words.items ++ index_words l 65537) c.deref.ensures.value in
    let ranged : IsRanged c.softwire.result = record { mtu6 = omega arith; mtu4 = omega arith; hop_limit = omega arith } in
    let count : c.len-2.result ≡ length rows = search rules in
    let settings = c.in_ok-put_settings.ensures ∙ ap (λ s. c.in_ok-words.words.items ++ settings_words s c.len-2.result) c.softwire.ensures.value
    ∙ ap (λ n. c.in_ok-words.words.items ++ settings_words c.args.table.now.softwire n) count in
    compiled_is t c.softwire.ensures.lawful rows same c.in_ok-rows.ensures.ascending c.softwire.ensures.valid
    (subst IsRanged c.softwire.ensures.value ranged) c.of.result
    (c.of.ensures ∙ words_are _ _ _ c.in_ok-words.words.items _ _ _ entries index settings c.in_ok-words.ensures.items)

pub put_entries-requires-clause-unmarked : goal.put_entries-requires-clause-unmarked
put_entries-requires-clause-unmarked c =
    let t = c.args.table.now in
    let rows = c.in_ok-rows.rows.items in
    let same = subst (λ bs. IsPermutation (map row bs) rows) c.bindings-bindings.ensures.value c.in_ok-rows.ensures.same in
    subst AreUnmarked (sym c.deref-2.ensures.value) (rows_unmarked t c.softwire.ensures.lawful rows same)

pub returns-clause-some_table : goal.returns-clause-some_table
returns-clause-some_table c = record { table = c.args.table.now; of_table = returns-clause-words c }

pub returns-clause-size : goal.returns-clause-size
returns-clause-size c =
    let h : IsCompiled c.args.table.now c.of.result = returns-clause-words c in
    omega (arith, h.size, length_permutation _ _ h.same, length-map c.args.table.now.bindings row)
