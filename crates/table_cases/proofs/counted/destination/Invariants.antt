use Rattle.table_cases.proofs.counted.destination.Given as goal

abbrev pub ghosts-counted_destination : goal.ghosts-counted_destination
ghosts-counted_destination a = record { name = a.blank.name; parts = a.blank.parts }
