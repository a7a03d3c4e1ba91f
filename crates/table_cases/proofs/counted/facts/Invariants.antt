use Rattle.table_cases.proofs.counted.facts.Given as goal

abbrev pub ghosts-facts_in : goal.ghosts-facts_in
ghosts-facts_in a = record { name = a.blank.name; parts = a.blank.parts }
