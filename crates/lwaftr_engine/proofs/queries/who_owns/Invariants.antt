use Rattle.lwaftr_engine.proofs.queries.who_owns.Given as goal

abbrev pub ghosts-owner_in : goal.ghosts-owner_in
ghosts-owner_in g a = record { name = a.blank.name; parts = a.blank.parts }
