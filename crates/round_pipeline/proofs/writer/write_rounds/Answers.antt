use Rattle.std.proofs.Common.{arith, length, refl, rules, subst, sym, ◌<◌, ◌∙◌, length-set}
use Rattle.std.specs.Prelude.{Bool, slice_set}
use Rattle.rtrb.specs.Ring.{received}
use Rattle.round_pipeline.specs.Threads.{IsWriting}
use Rattle.round_pipeline.proofs.Puts.{put_more, write_same_set}
use Rattle.round_pipeline.proofs.writer.write_rounds.Goals as goal

pub rounds-preserved-in-Some-next_turn : goal.rounds-preserved-in-Some-next_turn
rounds-preserved-in-Some-next_turn g c =
    let n = length c.args.lines.now in
    let known = c.rounds.invariant in
    let at = c.in-Some-next_turn.at in
    let told = c.in-Some-next_turn.ensures.some in
    let before = c.index-lines-at.result in
    let line = c.put_round.new.line in
    let inside : at < n = omega (arith, told.0, known.count) in
    record {
      count = refl;
      size = length-set c.rounds.lines at line ∙ known.size;
      same = write_same_set c.args.lines.now c.rounds.lines at n before line known.size inside known.same c.put_round.ensures.same;
      turns = search rules;
      ready = c.put_round.ensures.ready;
      written = λ start first was.
          let W : Bool → Type 0 = λ b. IsWriting g.W.Sink.puts n start first (received c.rounds.order.turns) b c.rounds.sink c.rounds.answer c.rounds.lines in
          let W2 : Bool → Type 0 = λ b. IsWriting g.W.Sink.puts n start first (received c.next_turn.new.order.turns) b c.put_round.new.sink c.put_round.new.answer (slice_set c.rounds.lines at line) in
          subst W2 (sym told.2)
          (put_more g.W.Sink.puts n first c.rounds.lines at before line inside (subst W c.if-order.false (known.written start first was)) c.put_round.ensures.put told.1);
    }
