use Rattle.run_turns.proofs.run.run_records.Given as goal

abbrev pub ghosts-take_all : goal.ghosts-take_all
ghosts-take_all g a = record { areas = a.means.now.areas.now }
