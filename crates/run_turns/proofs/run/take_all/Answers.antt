use Rattle.run_turns.specs.Setups.{spot}
use Rattle.run_turns.proofs.Starting.{leaves_none}
use Rattle.run_turns.proofs.run.take_all.Goals as goal

pub returns-in_default-clause-leaves : goal.returns-in_default-clause-leaves
returns-in_default-clause-leaves g c =
    let start = c.requires.start in
    leaves_none (spot (g.C.CaptureReader.stands c.args.reader.now) (g.C.CaptureReader.left c.args.reader.now) (g.C.CaptureReader.at c.args.reader.now))
    (g.I.Reading.readable c.args.reading.now) (g.O.Writing.written c.args.writing.now)
    (λ bytes number. c.some_left.ensures c.args.reader.now bytes number) start.first start.no_points start.no_draws
