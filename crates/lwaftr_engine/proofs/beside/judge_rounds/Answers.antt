use Rattle.std.specs.Prelude.{IsOk}
use Rattle.lwaftr_engine.proofs.Words.{WentWell, rules, setup_of, sym, ◌∙◌, ◌∷◌}
use Rattle.lwaftr_engine.proofs.Adding.{goes_on}
use Rattle.lwaftr_engine.proofs.Besides.{as_many, asked_more, exchange, heard_more, if_ok, reached_more}
use Rattle.lwaftr_engine.proofs.beside.judge_rounds.Goals as goal

pub returns-then-not-went-clause-judged : goal.returns-then-not-went-clause-judged
returns-then-not-went-clause-judged g c =
    let known = c.rounds.invariant in
    let a = c.in-Some-take.assignment in
    let did = c.judge-judged in
    let e = exchange a.round a.room (record { records = a.round.records; made = did.new.made; judged = did.result }) in
    record {
      exchanges = e ∷ known.exchanges;
      took_are = asked_more known.exchanges e known.asked (c.answer.ensures.taken ∙ c.in-Some-take.ensures.some.0);
      gave_are = heard_more known.exchanges e (c.in-Some-take.ensures.given ∙ known.told) c.answer.ensures.given;
      judged = (c.rounds.router, known.judged, record { duty = did.ensures.duty; well = did.ensures.well });
    }

pub rounds-preserved : goal.rounds-preserved
rounds-preserved g c =
    let known = c.rounds.invariant in
    let a = c.in-Some-take.assignment in
    let did = c.judge-judged in
    let e = exchange a.round a.room (record { records = a.round.records; made = did.new.made; judged = did.result }) in
    let is : IsOk did.result = search rules in
    let well : WentWell (setup_of c.args.task) c.rounds.router did.new.router a.round did.new.made = if_ok did.result is did.ensures.well in
    let took = asked_more known.exchanges e known.asked (c.answer.ensures.taken ∙ c.in-Some-take.ensures.some.0) in
    let gave = heard_more known.exchanges e (c.in-Some-take.ensures.given ∙ known.told) c.answer.ensures.given in
    record {
      same = search rules;
      can = goes_on c.rounds.router.shift did.new.router did.ensures.duty known.can well.after;
      number = well.number ∙ sym (reached_more known.exchanges e took);
      exchanges = e ∷ known.exchanges;
      asked = took;
      told = gave;
      all = rw (gave, took) (as_many (e ∷ known.exchanges));
      judged = (c.rounds.router, known.judged, record { duty = did.ensures.duty; well = did.ensures.well });
    }
