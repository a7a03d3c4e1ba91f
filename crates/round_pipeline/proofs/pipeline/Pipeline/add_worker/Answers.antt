use Rattle.std.proofs.Common.{List, ap, ◌≡◌, ◌++◌, ◌∙◌, ◌∷◌, []}
use Rattle.round_pipeline.specs.declared.capture.ReadEnd.{ReadEnd}
use Rattle.round_pipeline.specs.declared.finished.Seat.{Seat}
use Rattle.round_pipeline.specs.declared.writer.WriteEnd.{WriteEnd}
use Rattle.round_pipeline.specs.Pipelines.{Crew}
use Rattle.round_pipeline.proofs.Adds.{crew_added, fresh_added}
use Rattle.round_pipeline.proofs.pipeline.Pipeline.add_worker.Goals as goal

pub invariant_of-self-2 : goal.invariant_of-self-2
invariant_of-self-2 g c =
    let p = c.self.inside in
    let read = c.in_ok-read.field-0.read in
    let seat : Seat g.row.T.Denot g.row.J.Denot = record { judge = c.args.judge; line = c.in_ok-read.field-0.judge } in
    let write = c.in_ok-read.field-0.write in
    fresh_added p.reads.items p.seats.items p.writes.items read seat write
    (let pushed : c.push_reserved.new.self.items ≡ c.reserve.new.self.items ++ read ∷ [] = c.push_reserved.ensures.items in pushed ∙ ap (λ (l : List (ReadEnd g.row.T.Denot)). l ++ read ∷ []) c.in_ok-reserve.ensures.items)
    (let pushed : c.push_reserved-2.new.self.items ≡ c.reserve-2.new.self.items ++ seat ∷ [] = c.push_reserved-2.ensures.items in pushed ∙ ap (λ (l : List (Seat g.row.T.Denot g.row.J.Denot)). l ++ seat ∷ []) c.in_ok-reserve-2.ensures.items)
    (let pushed : c.push_reserved-3.new.self.items ≡ c.reserve-3.new.self.items ++ write ∷ [] = c.push_reserved-3.ensures.items in pushed ∙ ap (λ (l : List (WriteEnd g.row.T.Denot)). l ++ write ∷ []) c.in_ok-reserve-3.ensures.items)
    c.self.invariant c.in_ok-read.ensures.0

pub returns-clause-added : goal.returns-clause-added
returns-clause-added g c =
    let p = c.self.inside in
    let read = c.in_ok-read.field-0.read in
    let seat : Seat g.row.T.Denot g.row.J.Denot = record { judge = c.args.judge; line = c.in_ok-read.field-0.judge } in
    let write = c.in_ok-read.field-0.write in
    crew_added p.reads.items p.seats.items p.writes.items read seat write c.args.buffers.items
    (let pushed : c.push_reserved-2.new.self.items ≡ c.reserve-2.new.self.items ++ seat ∷ [] = c.push_reserved-2.ensures.items in pushed ∙ ap (λ (l : List (Seat g.row.T.Denot g.row.J.Denot)). l ++ seat ∷ []) c.in_ok-reserve-2.ensures.items)
    (let pushed : c.push_reserved-3.new.self.items ≡ c.reserve-3.new.self.items ++ write ∷ [] = c.push_reserved-3.ensures.items in pushed ∙ ap (λ (l : List (WriteEnd g.row.T.Denot)). l ++ write ∷ []) c.in_ok-reserve-3.ensures.items)
    c.in_ok-read.ensures.1
    ∙ ap (λ (x : Crew g.row.J.Denot g.row.T.Denot). (let now : Crew g.row.J.Denot g.row.T.Denot = record { judges = x.judges ++ c.args.judge ∷ []; buffers = x.buffers ++ c.args.buffers.items ∷ [] } in now)) c.self.view_is
