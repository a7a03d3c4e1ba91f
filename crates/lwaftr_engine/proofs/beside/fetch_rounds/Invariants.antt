use Rattle.lwaftr_engine.proofs.Words.{IsInHand, List, halves, length, setup_of, spot, ◌≡◌}
use Rattle.hand_over.specs.Lines.{SameAsker, asked, heard}
use Rattle.lwaftr_engine.specs.Beside.{Exchange, HaveFetched, assignments, reached, reports, standing}
use Rattle.lwaftr_engine.proofs.beside.fetch_rounds.Given as goal

abbrev pub invariant-rounds : goal.invariant-rounds
invariant-rounds g l =
    let i = g.I.Reading in
    let o = g.O.Writing in
    let r = g.C.CaptureReader in
    record {
      same : SameAsker l.fn.asker l.asker;
      ready : r.ready l.reader l.under_way.round.number;
      in_hand : IsInHand (reached (asked l.asker)) l.under_way.round;
      exchanges : List Exchange;
      asked_are : asked l.asker ≡ assignments exchanges;
      heard_are : heard l.asker ≡ reports exchanges;
      all : length (heard l.asker) ≡ length (asked l.asker);
      fetched : HaveFetched (setup_of l.task) (λ v. spot (r.stands v) (r.left v) (r.at v)) (λ v n. r.ready v n)
          (standing (halves (i.readable l.fn.files.reading) (o.written l.fn.files.writing)) l.fn.reader l.fn.under_way.round l.fn.under_way.pending) exchanges
          (standing (halves (i.readable l.files.reading) (o.written l.files.writing)) l.reader l.under_way.round l.under_way.pending);
    }
