use Rattle.std.proofs.Common.{refl, sym, ◌∙◌}
use Rattle.round_pipeline.proofs.Places.{at_with}
use Rattle.round_pipeline.proofs.Rounds.{run_settled}
use Rattle.round_pipeline.proofs.alone.settle.Goals as goal

pub returns-clause-running : goal.returns-clause-running
returns-clause-running g c = λ n source seats sink first some was.
    let run = c.args.run.now in
    let read = c.index_mut-read.result.now in
    let write = c.index_mut-write.result.now in
    let slots = c.slots_beside.ensures in
    run_settled g.S.Source.fills g.J.Judge.judges g.W.Sink.puts n run _ read (record { work = read.work; back = c.slots_beside.new.self; bells = read.bells }) write
    (record { made = write.made; back = c.slots_beside.new.producer; bells = write.bells }) some was
    (λ d. at_with run.reads.items 0 d read c.requires.some.0 ∙ sym c.index_mut-read.ensures.value)
    (λ d. at_with run.writes.items 0 d write c.requires.some.1 ∙ sym c.index_mut-write.ensures.value)
    refl refl refl refl refl refl refl
    (record { work = ((refl, refl, refl, refl), refl); back = slots.looked.0 }) (record { made = ((refl, refl, refl, refl), refl); back = slots.producer.0 })
    slots.looked.1 slots.producer.1
