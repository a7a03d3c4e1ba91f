use Rattle.std.proofs.Common.{ℕ, List, option_map, is_some, sym, ap, ◌∙◌}
use Rattle.std.specs.Borrow.{Bor}
use Rattle.table_hints.proofs.LineLemmas.{no_brackets, no_name, by_end, some_mapped}
use Rattle.table_hints.proofs.headers.spells_header.Goals as goal

abbrev shown : Bor (List ℕ) → List ℕ
shown r = r.now

pub returns-in_default : goal.returns-in_default
returns-in_default c = no_brackets c.args.text.now (sym (ap (option_map shown) c.in_default.is) ∙ c.behind_word.ensures)

pub returns-in_default-behind_word : goal.returns-in_default-behind_word
returns-in_default-behind_word c =
    no_name c.args.text.now c.in-Some.inner.now c.behind_blanks.result.now (sym (ap (option_map shown) c.in-Some.is) ∙ c.behind_word.ensures) c.behind_blanks.ensures
    (sym (ap (option_map shown) c.in_default-behind_word.is) ∙ c.behind_word-2.ensures)

pub returns : goal.returns
returns c =
    c.is_some.ensures ∙ (some_mapped shown c.behind_word-3.result ∙ (ap is_some c.behind_word-3.ensures
    ∙ by_end c.args.text.now c.in-Some.inner.now c.behind_blanks.result.now c.in-Some-behind_word.rest.now c.behind_blanks-2.result.now
    (sym (ap (option_map shown) c.in-Some.is) ∙ c.behind_word.ensures) c.behind_blanks.ensures
    (sym (ap (option_map shown) c.in-Some-behind_word.is) ∙ c.behind_word-2.ensures) c.behind_blanks-2.ensures))
