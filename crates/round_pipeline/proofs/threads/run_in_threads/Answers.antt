use Rattle.std.proofs.Common.{arith, ap, length, subst, sym, true, ℕ, ◌++◌, ◌∙◌, ◌≡◌}
use Rattle.std.specs.Prelude.{Bool}
use Rattle.rtrb.specs.Ring.{known_items, received, sent}
use Rattle.round_pipeline.specs.declared.capture.Capture.{Capture}
use Rattle.round_pipeline.specs.Threads.{IsDesk, IsTurning, IsWriting}
use Rattle.round_pipeline.proofs.Joins.{first_of, has_running, lines_on}
use Rattle.round_pipeline.proofs.Puts.{write_same_on}
use Rattle.round_pipeline.proofs.threads.run_in_threads.Goals as goal

pub new-requires : goal.new-requires
new-requires g c = (c.args.capture, c.requires.named.0, c.requires.desk.0)

pub meet_lines-requires-clause-lines : goal.meet_lines-requires-clause-lines
meet_lines-requires-clause-lines g c =
    let n = length c.args.crew.0.items in
    let now = c.into_capture-capture.result in
    let back = c.into_capture-capture.ensures in
    let D : Capture g.row.T.Denot g.row.S.Denot → Type 0 = λ x. IsDesk g.S.Source.ready g.S.Source.fills x now in
    let desk : IsDesk g.S.Source.ready g.S.Source.fills c.args.capture now = subst D (c.requires.named.1 back.0 back.1) back.2 in
    let size : length c.args.capture.lines.items ≡ n = c.requires.sizes.0 in
    let wide : length c.args.writing.lines.items ≡ n = c.requires.sizes.1 in
    let did = c.work_and_write-shop.ensures in
    let end = c.work_and_write-shop.result in
    let wrote = c.write_on-writing.ensures in
    λ i r j w l.
    lines_on n c.args.capture.lines.items now.lines.items c.args.crew.0.items end.0.seats.items c.args.writing.lines.items
    c.write_on-writing.result.lines.items c.requires.lines (λ k d m. desk.same k d (omega (arith, m, size))) (λ k d m. (did.served.each k d m).same)
    (λ k d m. write_same_on (did.written.same k d (omega (arith, m, wide))) (wrote.same k d (omega (arith, m, wide, did.written.written.size)))) i r j w
    (omega (arith, l, size, desk.turning.size))

pub returns-clause-ready : goal.returns-clause-ready
returns-clause-ready g c =
    let back = c.into_capture-capture.ensures in
    let now = c.into_capture-capture.result in
    let D : Capture g.row.T.Denot g.row.S.Denot → Type 0 = λ x. IsDesk g.S.Source.ready g.S.Source.fills x now in
    let desk : IsDesk g.S.Source.ready g.S.Source.fills c.args.capture now = subst D (c.requires.named.1 back.0 back.1) back.2 in
    let size : length now.lines.items ≡ length c.args.crew.0.items = desk.turning.size ∙ c.requires.sizes.0 in
    let R : g.row.J.Denot → Type 0 = λ x. g.J.Judge.ready x in
    record {
      source = desk.ready_now;
      judges_ready = λ i d l. subst R (sym (c.meet_lines.ensures.judges i d (omega (arith, l, size)))) (c.work_and_write-shop.ensures.served.each i d l).ready_still;
      sink = c.write_on-writing.ensures.ready;
    }

pub returns-clause-ran : goal.returns-clause-ran
returns-clause-ran g c =
    let n = length c.args.crew.0.items in
    let back = c.into_capture-capture.ensures in
    let now = c.into_capture-capture.result in
    let D : Capture g.row.T.Denot g.row.S.Denot → Type 0 = λ x. IsDesk g.S.Source.ready g.S.Source.fills x now in
    let desk : IsDesk g.S.Source.ready g.S.Source.fills c.args.capture now = subst D (c.requires.named.1 back.0 back.1) back.2 in
    let begun : length c.args.capture.lines.items ≡ n = c.requires.sizes.0 in
    let wide : length c.args.writing.lines.items ≡ n = c.requires.sizes.1 in
    let size : length now.lines.items ≡ n = desk.turning.size ∙ begun in
    let did = c.work_and_write-shop.ensures in
    let end = c.work_and_write-shop.result in
    let wrote = c.write_on-writing.ensures in
    let last = c.write_on-writing.result in
    let some = c.requires.some in
    let met = c.meet_lines.ensures in
    let slots = c.slots_beside.ensures in
    let H : ℕ → Type 0 = λ k. IsTurning g.S.Source.fills k c.args.capture.source now.source now.lines.items (sent now.order.turns) now.more now.closed in
    let K : ℕ → Type 0 = λ k. IsWriting g.W.Sink.puts k c.args.writing.sink c.args.writing.lines.items (received last.order.turns) true last.sink last.answer last.lines.items in
    let B : Bool → Type 0 = λ b.
    IsWriting g.W.Sink.puts (length c.args.writing.lines.items) c.args.writing.sink c.args.writing.lines.items (received last.order.turns) b last.sink last.answer last.lines.items in
    let L : ℕ → Type 0 = λ k. IsWriting g.W.Sink.puts k c.args.writing.sink c.args.writing.lines.items (received end.1.order.turns) end.1.order.ended end.1.sink end.1.answer end.1.lines.items in
    let M : ℕ → Type 0 = λ k. IsWriting g.W.Sink.puts k c.args.writing.sink c.args.writing.lines.items (received last.order.turns) last.order.ended last.sink last.answer last.lines.items in
    let all = subst M did.written.written.size (wrote.written c.args.writing.sink c.args.writing.lines.items (subst L (sym did.written.written.size) did.written.written)) in
    has_running g.S.Source.fills g.J.Judge.judges g.W.Sink.puts n c.args.crew.0.items end.0.seats.items now.lines.items c.args.writing.lines.items last.lines.items _
    (known_items c.slots_beside.new.self) now.closed
    (first_of now.lines.items (omega (arith, some, size))) (first_of end.0.seats.items (omega (arith, some, did.served.size)))
    (first_of last.lines.items (omega (arith, some, wrote.size, did.written.written.size, wide))) did.served (subst H begun desk.turning)
    (subst K wide (subst B wrote.ended all))
    (ap (λ (x : _). x ++ known_items c.slots_beside.new.self) (sym slots.looked.1) ∙ slots.fifo ∙ slots.producer.1)
    (λ i r j w l. met.met i r j w (omega (arith, l, size))) (λ i j l. met.judges i j (omega (arith, l, size)))
    (met.sizes.0 ∙ size, met.sizes.1 ∙ size, met.sizes.2 ∙ size)
