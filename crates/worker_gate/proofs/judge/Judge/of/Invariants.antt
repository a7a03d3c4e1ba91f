use Rattle.worker_gate.proofs.judge.Judge.of.Given as goal

abbrev pub ghosts-settings_of : goal.ghosts-settings_of
ghosts-settings_of a = record { name = a.blank.name; parts = a.blank.parts }
