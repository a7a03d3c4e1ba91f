use Rattle.std.proofs.Common.{length}
use Rattle.round_pipeline.proofs.Turns.{turn_more}
use Rattle.round_pipeline.proofs.capture.read_turn.Goals as goal

pub returns-in-Ok-clause-read : goal.returns-in-Ok-clause-read
returns-in-Ok-clause-read g c = λ start was.
    turn_more g.S.Source.fills (length c.args.lines.now) c.args.lines.now c.args.number c.index-lines-number.result c.read_round.new.line c.requires.inside was
    c.in-Ok.ensures.read c.send.ensures.sent
