use Rattle.packet_cases.proofs.under_tables.judged_over.Given as goal

abbrev pub ghosts-judged_over_in : goal.ghosts-judged_over_in
ghosts-judged_over_in a = record { name = a.blank.name; parts = a.blank.parts }
