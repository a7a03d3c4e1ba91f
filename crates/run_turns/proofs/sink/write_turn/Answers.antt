use Rattle.std.proofs.Common.{sym, subst}
use Rattle.output_journal.specs.Log.{AreDistinct}
use Rattle.run_turns.specs.Setups.{setup_of}
use Rattle.run_turns.proofs.Apart.{apart}
use Rattle.run_turns.proofs.sink.write_turn.Goals as goal

pub write_round-requires : goal.write_round-requires
write_round-requires g c =
    record { distinct = subst AreDistinct (sym c.names_of.ensures) (apart (setup_of c.args.task).run c.requires.apart) }
