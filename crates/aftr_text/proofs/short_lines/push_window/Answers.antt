use Rattle.std.proofs.Common.{◌≡◌, ℕ, ◌+◌, ◌-◌, drop, take, ◌∙◌, ap, arith, rules}
use Rattle.aftr_text.proofs.Appending.{unchanged}
use Rattle.aftr_text.proofs.Windows.{cut_off}
use Rattle.aftr_text.proofs.short_lines.push_window.Goals as goal

pub returns-clause-bytes : goal.returns-clause-bytes
returns-clause-bytes c =
    let rest = drop c.args.start c.args.line.now in
    let whole : c.args.start + 24 - c.args.start ≡ 24 = omega arith in
    cut_off c.args.lines.now.items (take (c.args.start + 24 - c.args.start) rest) rest c.extend_from_slice.new.self.items
    c.truncate.new.self.items 24 c.args.start (ap (λ (n : ℕ). take n rest) whole) c.in_ok-extend_from_slice.ensures.items (c.truncate.ensures.items ∙ ap (λ (n : ℕ). take (n + (24 - c.args.start)) c.extend_from_slice.new.self.items) (search rules))

pub returns-in_err-extend_from_slice-clause-kept : goal.returns-in_err-extend_from_slice-clause-kept
returns-in_err-extend_from_slice-clause-kept c = λ failed.
    unchanged c.args.lines.now.items c.extend_from_slice.new.self.items c.in_err-extend_from_slice.ensures.items
