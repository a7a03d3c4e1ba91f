-- What a record writes is what its entry does.
use Rattle.std.proofs.Common.{◌≡◌, ◌++◌, ◌∙◌, Bool, List, ℕ, false, true, ap, append_assoc, flat_map, length}
use Rattle.std.specs.Prelude.{slice_index_or}
use Rattle.aftr_text.specs.Lines.{ended_text}
use Rattle.capture_io.specs.Packets.{packet_bytes}
use Rattle.run_output.specs.Counting.{with_record}
use Rattle.run_output.specs.Outputs.{record_text, sent_unless}
use Rattle.run_output.proofs.CellLemmas.{ended_there, item_there}
use Rattle.run_output.proofs.rendering.render_record.Goals as goal

pub returns-clause-more : goal.returns-clause-more
returns-clause-more c = λ entry there.
    let round = c.args.round.now in
    let number : ℕ = c.args.number.now in
    let limited : Bool = c.args.limited in
    let o = c.args.outcome.now in
    let old = c.args.part.now in
    let text : ℕ → List ℕ = λ packets. record_text limited number o.version o.verdict packets in
    let item = item_there round.items.now c.args.index entry there in
    let ended = ended_there round.items.now c.args.index entry c.ended.result.now c.ended.ensures there in
    let count : c.in_ok-count.count ≡ length (sent_unless limited entry.item o.verdict number) =
    c.in_ok-count.ensures.count entry.item item ∙ ap (λ (n : ℕ). length (sent_unless limited entry.item o.verdict n)) c.get.ensures in
    record {
      packets = c.in_ok-count.ensures.bytes entry.item item
          ∙ ap (λ (n : ℕ). old.packets.items ++ flat_map (packet_bytes round.written c.args.rec.now.seconds c.args.rec.now.fraction) (sent_unless limited entry.item o.verdict n)) c.get.ensures;
      lines = c.in_ok-push_record_line.ensures
          ∙ (ap (λ (l : List ℕ). l ++ text c.in_ok-count.count) c.in_ok-push_ended_lines.ensures.lines
          ∙ (append_assoc (old.lines.items) (flat_map (ended_text true) c.ended.result.now) (text c.in_ok-count.count)
          ∙ (λ j. old.lines.items ++ (flat_map (ended_text true) (ended j) ++ text (count j)))));
      counts = c.count_record.ensures ∙ ap (with_record old.counted o.verdict) (c.from.ensures ∙ count);
    }
