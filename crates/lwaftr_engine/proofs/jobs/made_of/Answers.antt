use Rattle.lwaftr_engine.proofs.Words.{IsFitFor, arith}
use Rattle.std.proofs.lemmas.Slice.Zip.{AllZip-long}
use Rattle.lwaftr_engine.proofs.MadeLemmas.{are_sound, counted}
use Rattle.lwaftr_engine.proofs.jobs.made_of.Goals as goal

pub plan-requires-clause-few : goal.plan-requires-clause-few
plan-requires-clause-few c = omega (arith, AllZip-long IsFitFor c.args.job.now.loads c.args.loads.items c.requires.fit, c.requires.job.few)

pub plan-requires-clause-loads : goal.plan-requires-clause-loads
plan-requires-clause-loads c = are_sound c.args.job.now.loads c.args.loads.items c.requires.fit c.requires.job.loads c.requires.job.rising

pub returns-clause-count : goal.returns-clause-count
returns-clause-count c = counted c.plan.result c.args.job.now.loads c.args.loads.items c.requires.fit c.plan.ensures.slots
