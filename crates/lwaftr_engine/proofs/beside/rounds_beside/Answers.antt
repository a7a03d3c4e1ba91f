use Rattle.lwaftr_engine.proofs.Words.{[], halves, refl, rules, setup_of, spot}
use Rattle.hand_over.specs.Lines.{asked, heard}
use Rattle.lwaftr_engine.specs.Beside.{Asks, standing}
use Rattle.lwaftr_engine.proofs.Besides.{both, of_same}
use Rattle.lwaftr_engine.proofs.beside.rounds_beside.Goals as goal

pub returns-then-is_some : goal.returns-then-is_some
returns-then-is_some g c = record { exchanges = []; judged = refl; ended = refl }

pub returns : goal.returns
returns g c =
    let i = g.I.Reading in
    let o = g.O.Writing in
    let r = g.C.CaptureReader in
    let x = setup_of c.args.task in
    let start = standing (halves (i.readable c.args.files.now.reading) (o.written c.args.files.now.writing)) c.args.reader.now c.args.under_way.now.round c.args.under_way.now.pending in
    let fetched = c.join_mut-fetched.result.1 in
    let now = c.join_mut-fetched.new.g in
    both x (λ v. spot (r.stands v) (r.left v) (r.at v)) (λ v n. r.ready v n) start c.args.router.now _ c.compare.ensures.took c.compare.ensures.gave
    (search rules) _ fetched
    (of_same
    (λ files reader round pending asks hears. Asks x (λ v. spot (r.stands v) (r.left v) (r.at v)) (λ v n. r.ready v n) start
    (standing (halves (i.readable files.reading) (o.written files.writing)) reader round pending) asks hears fetched)
    now.2.now now.4.now now.5.now.round now.5.now.pending (asked now.6.now) (heard now.6.now)
    (search rules) (search rules) (search rules) (search rules) (search rules) (search rules) c.join_mut-fetched.ensures.1.met.1.1.0)
