use Rattle.gate_cases.proofs.held_area.owner.Given as goal

abbrev pub ghosts-look_in : goal.ghosts-look_in
ghosts-look_in a = record { name = a.blank.name; parts = a.blank.parts }
