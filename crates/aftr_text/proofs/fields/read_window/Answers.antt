use Rattle.std.proofs.Common.{◌≢◌, ◌∙◌, sym, arith, decimal, rules}
use Rattle.std.proofs.lemmas.Fmt.{decimal_injective}
use Rattle.swap_core.specs.Plans.{IsWindow}
use Rattle.swap_core.specs.declared.plan.Window.{Window}
use Rattle.aftr_text.specs.Jobs.{window_text}
use Rattle.aftr_text.proofs.Cuts.{cut, no_mark, window_cut}
use Rattle.aftr_text.proofs.fields.read_window.Goals as goal

pub returns-in_err-first-clause-none : goal.returns-in_err-first-clause-none
returns-in_err-first-clause-none c =
    let none : (w : Window) → IsWindow w → c.args.word.now ≢ window_text w =
    λ w h. no_mark 45 c.args.word.now c.split_once.result c.split_once.ensures.cases c.in_err-first.was (omega arith) (decimal w.earliest) (decimal w.latest) in
    search rules

pub returns-in_err-earliest-clause-none : goal.returns-in_err-earliest-clause-none
returns-in_err-earliest-clause-none c =
    let parts = cut 45 c.args.word.now c.split_once.result c.in_ok-first.first c.in_ok-first.last c.split_once.ensures.cases c.in_ok-first.was (omega arith) in
    let none : (w : Window) → IsWindow w → c.args.word.now ≢ window_text w =
    λ w h e. c.in_err-earliest.ensures.none w.earliest (omega arith) (omega (arith, h.0, h.1))
    (window_cut w c.in_ok-first.first.now c.in_ok-first.last.now h parts.1 (sym parts.0 ∙ e)).0 in
    search rules

pub returns-in_err-latest-clause-none : goal.returns-in_err-latest-clause-none
returns-in_err-latest-clause-none c =
    let parts = cut 45 c.args.word.now c.split_once.result c.in_ok-first.first c.in_ok-first.last c.split_once.ensures.cases c.in_ok-first.was (omega arith) in
    let none : (w : Window) → IsWindow w → c.args.word.now ≢ window_text w =
    λ w h e.
    let same = window_cut w c.in_ok-first.first.now c.in_ok-first.last.now h parts.1 (sym parts.0 ∙ e) in
    let first = decimal_injective c.in_ok-earliest.earliest w.earliest (omega (arith, c.in_ok-earliest.ensures.some.2)) (omega (arith, h.0, h.1))
    (sym c.in_ok-earliest.ensures.some.0 ∙ same.0) in
    c.in_err-latest.ensures.none w.latest (omega (arith, first, h.0)) (omega (arith, h.1)) same.1 in
    search rules
