use Rattle.binding_rules.proofs.conflicts.first_conflict.Given as goal

abbrev pub ghosts-conflict_in : goal.ghosts-conflict_in
ghosts-conflict_in a = record { name = a.blank.name; parts = a.blank.parts }
