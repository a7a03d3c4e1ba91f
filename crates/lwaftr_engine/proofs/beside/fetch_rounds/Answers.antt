use Rattle.lwaftr_engine.proofs.Words.{Round, [], ap, halves, refl, rules, ◌∙◌, ◌∷◌}
use Rattle.lwaftr_engine.specs.Beside.{standing}
use Rattle.lwaftr_engine.proofs.Besides.{as_many, asked_more, exchange, heard_more, in_vain, reached_more}
use Rattle.lwaftr_engine.proofs.Exits.{handed}
use Rattle.lwaftr_engine.proofs.beside.fetch_rounds.Goals as goal

pub returns-then-not-wait_for_answerer-clause-asks : goal.returns-then-not-wait_for_answerer-clause-asks
returns-then-not-wait_for_answerer-clause-asks g c =
    record { exchanges = []; asked_are = c.requires.nothing.0; heard_are = c.requires.nothing.1; ended = refl }

pub returns-then-is_some-clause-asks : goal.returns-then-is_some-clause-asks
returns-then-is_some-clause-asks g c =
    let known = c.rounds.invariant in
    record { exchanges = known.exchanges; asked_are = known.asked_are; heard_are = known.heard_are; ended = known.fetched }

pub rounds-init : goal.rounds-init
rounds-init g c = record {
  same = search rules;
  ready = c.requires.ready;
  in_hand = rw c.requires.nothing.0 c.requires.in_hand;
  exchanges = [];
  asked_are = c.requires.nothing.0;
  heard_are = c.requires.nothing.1;
  all = rw (c.requires.nothing.0, c.requires.nothing.1) refl;
  fetched = refl;
}

pub returns-in_err-next-clause-asks : goal.returns-in_err-next-clause-asks
returns-in_err-next-clause-asks g c =
    let known = c.rounds.invariant in
    let e = exchange c.replace-round.result c.rounds.room c.hear-records.result in
    let before = standing (halves (g.I.Reading.readable c.rounds.files.reading) (g.O.Writing.written c.rounds.files.writing)) c.rounds.reader c.rounds.under_way.round c.rounds.under_way.pending in
    rw (handed c.from_residual.result c.from_residual.ensures.1) (record {
      exchanges = e ∷ known.exchanges;
      asked_are = asked_more known.exchanges e known.asked_are (c.hear-records.ensures.asked ∙ c.ask.ensures.asked);
      heard_are = heard_more known.exchanges e (c.ask.ensures.heard ∙ known.heard_are) c.hear-records.ensures.heard;
      ended = (before, known.fetched, record { asked = c.replace-round.ensures.value; going = search rules; outside = c.in_err-next.ensures });
    })

pub returns-in_err-judged-clause-asks : goal.returns-in_err-judged-clause-asks
returns-in_err-judged-clause-asks g c =
    let known = c.rounds.invariant in
    let e = exchange c.replace-round.result c.rounds.room c.hear-records.result in
    let before = standing (halves (g.I.Reading.readable c.rounds.files.reading) (g.O.Writing.written c.rounds.files.writing)) c.rounds.reader c.rounds.under_way.round c.rounds.under_way.pending in
    rw (handed c.from_residual-in_err-judged.result c.from_residual-in_err-judged.ensures.1) (record {
      exchanges = e ∷ known.exchanges;
      asked_are = asked_more known.exchanges e known.asked_are (c.hear-records.ensures.asked ∙ c.ask.ensures.asked);
      heard_are = heard_more known.exchanges e (c.ask.ensures.heard ∙ known.heard_are) c.hear-records.ensures.heard;
      ended = (before, known.fetched, record { asked = c.replace-round.ensures.value; going = search rules; outside = in_vain c.in_ok-next.ensures });
    })

pub rounds-preserved : goal.rounds-preserved
rounds-preserved g c =
    let known = c.rounds.invariant in
    let did = c.in_ok-next.ensures in
    let e = exchange c.replace-round.result c.rounds.room c.hear-records.result in
    let before = standing (halves (g.I.Reading.readable c.rounds.files.reading) (g.O.Writing.written c.rounds.files.writing)) c.rounds.reader c.rounds.under_way.round c.rounds.under_way.pending in
    let asks = asked_more known.exchanges e known.asked_are (c.hear-records.ensures.asked ∙ c.ask.ensures.asked) in
    let hears = heard_more known.exchanges e (c.ask.ensures.heard ∙ known.heard_are) c.hear-records.ensures.heard in
    let number = reached_more known.exchanges e asks ∙ ap (λ (r : Round). r.number) c.replace-round.ensures.value in
    record {
      same = search rules;
      ready = did.well.ready;
      in_hand = rw number did.well.read.in_hand;
      exchanges = e ∷ known.exchanges;
      asked_are = asks;
      heard_are = hears;
      all = rw (hears, asks) (as_many (e ∷ known.exchanges));
      fetched = (
        before,
        known.fetched,
        record {
          handed = record { asked = c.replace-round.ensures.value; going = search rules; outside = did };
          judged = search rules;
          made = c.replace-room.ensures.after;
        },
      );
    }
