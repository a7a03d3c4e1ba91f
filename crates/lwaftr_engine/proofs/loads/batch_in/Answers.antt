use Rattle.lwaftr_engine.proofs.LoadLemmas.{loads_fit, loads_told}
use Rattle.lwaftr_engine.proofs.loads.batch_in.Goals as goal

pub returns-in-Ok-clause-loads : goal.returns-in-Ok-clause-loads
returns-in-Ok-clause-loads g c =
    loads_told (g.I.Reading.readable c.args.files.now).held c.args.words.now c.in_ok-read.read.items c.in-Ok.loads.items c.in_ok-read.ensures.texts c.in-Ok.ensures

pub returns-in-Ok-clause-fit : goal.returns-in-Ok-clause-fit
returns-in-Ok-clause-fit g c = loads_fit c.args.words.now c.in_ok-read.read.items c.in-Ok.loads.items c.in_ok-read.ensures.windows c.in-Ok.ensures
