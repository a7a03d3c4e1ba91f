use Rattle.table_cases.proofs.callers.found.Given as goal

abbrev pub ghosts-destination : goal.ghosts-destination
ghosts-destination a = record { name = a.blank.name; parts = a.blank.parts }
