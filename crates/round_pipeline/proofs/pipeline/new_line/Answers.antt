use Rattle.std.proofs.Common.{ap, refl, sym, ◌∙◌, ◌++◌}
use Rattle.round_pipeline.specs.Lists.{buffers, fresh}
use Rattle.round_pipeline.proofs.Left.{buffers_fresh}
use Rattle.round_pipeline.proofs.Rounds.{pair_on}
use Rattle.round_pipeline.proofs.pipeline.new_line.Goals as goal

pub returns : goal.returns
returns g c =
    let work = c.in_ok-work.ensures in
    let made = c.in_ok-made.ensures in
    let back = c.in_ok-back.ensures in
    let laid = c.in_ok-lay_out.ensures in
    let xs = c.args.buffers.items in
    let sent_is = laid.laid ∙ ap (λ (l : _). l ++ fresh xs) back.producer.0 in (
      record {
        ends = record {
          work = work.pair;
          made = made.pair;
          back = pair_on c.in_ok-back.back.end c.in_ok-back.to_read.end c.lay_out.new.back.end c.in_ok-back.to_read.end back.pair laid.same.0 (refl, refl, refl, refl);
        };
        work_sent = work.producer.0;
        work_taken = work.consumer.0;
        made_sent = made.producer.0;
        made_taken = made.consumer.0;
        back_sent = sent_is ∙ ap (λ (l : _). fresh l) (sym (buffers_fresh xs)) ∙ ap (λ (l : _). fresh (buffers l)) (sym sent_is);
        back_taken = back.consumer.0;
      },
      sent_is,
    )
