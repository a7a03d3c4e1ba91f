use Rattle.lwaftr_engine.proofs.Apart.{apart}
use Rattle.lwaftr_engine.proofs.RoundLemmas.{log_shown}
use Rattle.lwaftr_engine.proofs.Words.{setup_of}
use Rattle.lwaftr_engine.proofs.rounds.put.Goals as goal

pub write_round-requires : goal.write_round-requires
write_round-requires g c = record { distinct = rw c.names_of.ensures (apart (setup_of c.args.task).run c.requires.apart) }

pub returns : goal.returns
returns g c = record {
  log = log_shown c.args.pending.now c.as_bytes.result.now c.parts.result.now c.as_bytes.ensures.value c.parts.ensures _ _ _ _ _ c.names_of.ensures
      c.write_round.ensures.log;
}
