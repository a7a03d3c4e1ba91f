use Rattle.std.proofs.Common.{[], ap, append-nil, refl, rules, sym, ◌++◌, ◌∙◌, ◌∷◌}
use Rattle.std.specs.Prelude.{List, Some}
use Rattle.round_pipeline.specs.Lists.{told}
use Rattle.round_pipeline.proofs.worker.judge_rounds.Goals as goal

pub rounds-init : goal.rounds-init
rounds-init g c = record {
  same = search rules;
  ready = c.requires.ready;
  judging = record { rounds = []; products = []; took_are = c.requires.none.0; gave_are = c.requires.none.1; judged = refl };
}

pub rounds-preserved : goal.rounds-preserved
rounds-preserved g c =
    let known = c.rounds.invariant.judging in
    let round = c.in-Some-next_round.buffer in
    let made = c.judge.new.buffer in
    record {
      same = search rules;
      ready = c.judge.ensures.ready;
      judging = record {
        rounds = round ∷ known.rounds;
        products = made ∷ known.products;
        took_are = c.in-Some-next_round.ensures.received ∙ ap (λ (l : List _). l ++ Some round ∷ []) (known.took_are ∙ append-nil (told known.rounds))
            ∙ sym (append-nil (told (round ∷ known.rounds)));
        gave_are = c.send-in-rounds.ensures.sent ∙ ap (λ (l : List _). l ++ Some made ∷ []) (known.gave_are ∙ append-nil (told known.products))
            ∙ sym (append-nil (told (made ∷ known.products)));
        judged = (c.rounds.judge, known.judged, c.judge.ensures.judges);
      };
    }
