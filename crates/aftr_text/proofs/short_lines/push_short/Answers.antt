use Rattle.std.proofs.Common.{ℕ, List, ◌++◌, drop, subst, arith, rules}
use Rattle.std.proofs.lemmas.Fmt.{length-decimal-le}
use Rattle.std.specs.Prelude.{◌≡◌, IfOk}
use Rattle.aftr_text.specs.Lines.{judged_text}
use Rattle.aftr_text.proofs.Windows.{window_of}
use Rattle.aftr_text.proofs.short_lines.push_short.Goals as goal

pub write_judged-start-requires-clause-room : goal.write_judged-start-requires-clause-room
write_judged-start-requires-clause-room c = search (rules, length-decimal-le 1)

pub returns-clause-bytes : goal.returns-clause-bytes
returns-clause-bytes c =
    subst (λ (l : List ℕ). IfOk c.push_window.result (λ _. c.push_window.new.lines.items ≡ c.args.lines.now.items ++ l))
    (window_of 24 c.write_judged-start.result c.args.end (judged_text c.args.number.now c.args.version) c.write_judged-start.new.line
    (drop c.args.end c.args.ending.now) c.write_judged-start.ensures.start (omega (arith, c.requires.room)) c.write_judged-start.ensures.written)
    c.push_window.ensures.bytes
