use Rattle.std.proofs.Common.{Bool, [], arith, length, refl, subst, sym, ◌++◌, ◌<◌, ◌∙◌, ◌∷◌, ◌≡◌}
use Rattle.rtrb.specs.Ring.{sent}
use Rattle.round_pipeline.proofs.Places.{at_with}
use Rattle.round_pipeline.proofs.Rounds.{run_more}
use Rattle.round_pipeline.proofs.alone.one_round.Goals as goal

pub returns-clause-running : goal.returns-clause-running
returns-clause-running g c = λ source seats sink first was.
    let run = c.args.run.now in
    let n = length run.seats.items in
    let read = c.index_mut.result.now in
    let seat = c.index_mut-2.result.now in
    let write = c.index_mut-3.result.now in
    let B : Bool → Type 0 = λ b. sent c.give_back.new.line.back ≡ sent write.back ++ record { buffer = c.put.new.buffer; over = b } ∷ [] in
    let some : 0 < n = c.requires.some in
    run_more g.S.Source.fills g.J.Judge.judges g.W.Sink.puts n run _ read c.take_buffer-buffer.new.line seat _ write c.give_back.new.line _ _ _ _ some was c.requires.on.0
    c.requires.on.1
    (λ d. at_with run.reads.items 0 d read (omega (arith, some, c.requires.sizes.0)) ∙ sym c.index_mut.ensures.value)
    (λ d. at_with run.seats.items 0 d seat some ∙ sym c.index_mut-2.ensures.value)
    (λ d. at_with run.writes.items 0 d write (omega (arith, some, c.requires.sizes.1)) ∙ sym c.index_mut-3.ensures.value)
    refl refl refl c.take_buffer-buffer.ensures.same c.give_back.ensures.same c.take_buffer-buffer.ensures.took c.fill-run.ensures.fills c.judge.ensures.judges c.put.ensures.puts
    (subst B c.is_some.ensures c.give_back.ensures.gave)
