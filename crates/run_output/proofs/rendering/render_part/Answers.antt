use Rattle.std.proofs.Common.{◌≡◌, List, length, drop, take, ◌-◌, subst, arith}
use Rattle.run_output.specs.Cells.{Cell, IsPart, cells_in}
use Rattle.run_output.proofs.PartLemmas.{clamped, if_done, same_part}
use Rattle.run_output.proofs.RoundLemmas.{round_cells}
use Rattle.run_output.proofs.rendering.render_part.Goals as goal

pub returns : goal.returns
returns c = λ whole.
    let round = c.args.round.now in
    let all : List Cell = cells_in round in
    let size : length all ≡ length round.records.now = round_cells round c.requires.fitting in
    let done : IsPart round.written (take (c.min-to.result - c.min-from.result) (drop c.min-from.result all)) c.render_records-done.new.part =
    if_done c.render_records-done.result c.is_err-part.result c.is_err-part.ensures.value whole c.render_records-done.ensures in
    same_part round.written _ c.render_records-done.new.part c.is_err-part.result
    (subst (λ (cs : List Cell). IsPart round.written cs c.render_records-done.new.part)
    (clamped all round.size c.args.place c.min-from.result c.min-to.result (omega (arith, size, c.min-from.ensures, c.len.ensures)) (omega (arith, size, c.min-to.ensures, c.len-2.ensures))) done)
