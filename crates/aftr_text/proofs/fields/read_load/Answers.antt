use Rattle.std.proofs.Common.{◌≢◌, ◌∙◌, sym, arith, rules, subst}
use Rattle.aftr_text.specs.Jobs.{IsLoad, IsName, load_text, window_text}
use Rattle.aftr_text.specs.declared.jobs.LoadWords.{LoadWords}
use Rattle.aftr_text.proofs.Cuts.{cut, no_mark, load_cut}
use Rattle.aftr_text.proofs.fields.read_load.Goals as goal

pub returns-in_err-range-clause-none : goal.returns-in_err-range-clause-none
returns-in_err-range-clause-none c =
    let none : (load : LoadWords) → IsLoad load → c.args.word.now ≢ load_text load =
    λ load h. no_mark 58 c.args.word.now c.split_once.result c.split_once.ensures.cases c.in_err-range.was (omega arith) (window_text load.window) load.name in
    search rules

pub returns-in_err-window-clause-none : goal.returns-in_err-window-clause-none
returns-in_err-window-clause-none c =
    let parts = cut 58 c.args.word.now c.split_once.result c.in_ok-range.range c.in_ok-range.name c.split_once.ensures.cases c.in_ok-range.was (omega arith) in
    let none : (load : LoadWords) → IsLoad load → c.args.word.now ≢ load_text load =
    λ load h e. c.in_err-window.ensures.none load.window h.0
    (load_cut load c.in_ok-range.range.now c.in_ok-range.name.now h parts.1 (sym parts.0 ∙ e)).0 in
    search rules

pub returns-else-is_name-clause-none : goal.returns-else-is_name-clause-none
returns-else-is_name-clause-none c =
    let parts = cut 58 c.args.word.now c.split_once.result c.in_ok-range.range c.in_ok-range.name c.split_once.ensures.cases c.in_ok-range.was (omega arith) in
    λ load h e.
    let same = (load_cut load c.in_ok-range.range.now c.in_ok-range.name.now h parts.1 (sym parts.0 ∙ e)).1 in
    absurd (cc (c.if-is_name.ensures.1 (subst IsName (sym same) h.1)))
