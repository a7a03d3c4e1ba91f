-- What the front says of the bytes as the code has them.
use Rattle.std.proofs.Common.{◌≡◌, sym, ◌∙◌, ap}
use Rattle.capture_io.specs.declared.fronts.Front.{Front}
use Rattle.capture_io.specs.Fronts.{front_in, is_more}
use Rattle.capture_io.proofs.WindowLemmas.{open_last, open_more, open_short, said_of}
use Rattle.capture_io.proofs.fronts.is_open.Goals as goal
use Rattle.capture_io.proofs.fronts.is_open.Goals.{After-front_of}

open_by : (c : After-front_of) → (f : Front) → c.front_of.result ≡ f →
    is_more (front_in c.args.next.big c.args.window.now.bytes c.args.window.now.last c.args.next.at c.args.next.number) ≡ is_more f
open_by c f is =
    ap is_more (sym (said_of c.args.next.big c.args.window.now c.args.next.at c.args.next.number c.as_slice.result.now c.is_last.result c.front_of.result
    c.as_slice.ensures c.is_last.ensures c.front_of.ensures) ∙ is)

pub returns-in-Whole-clause-open : goal.returns-in-Whole-clause-open
returns-in-Whole-clause-open c = sym (open_by (goal.at.returns-in-Whole-clause-open c).After-front_of _ c.in-Whole.is)

pub returns-in-End-clause-open : goal.returns-in-End-clause-open
returns-in-End-clause-open c = sym (open_by (goal.at.returns-in-End-clause-open c).After-front_of _ c.in-End.is)

pub returns-in-Bad-clause-open : goal.returns-in-Bad-clause-open
returns-in-Bad-clause-open c = sym (open_by (goal.at.returns-in-Bad-clause-open c).After-front_of _ c.in-Bad.is)

pub returns-in-More-clause-open : goal.returns-in-More-clause-open
returns-in-More-clause-open c = sym (open_by (goal.at.returns-in-More-clause-open c).After-front_of _ c.in-More.is)

pub returns-in-More-clause-more : goal.returns-in-More-clause-more
returns-in-More-clause-more c = λ _.
    let w = c.args.window.now in
    open_last c.args.next.big w.bytes w.last c.args.next.at c.args.next.number (open_by (goal.at.returns-in-More-clause-more c).After-front_of _ c.in-More.is)

pub returns-in-More-clause-short : goal.returns-in-More-clause-short
returns-in-More-clause-short c = λ _.
    let w = c.args.window.now in
    open_short c.args.next.big w.bytes c.args.next.at c.args.next.number
    (open_more c.args.next.big w.bytes w.last c.args.next.at c.args.next.number
    (open_by (goal.at.returns-in-More-clause-short c).After-front_of _ c.in-More.is))
