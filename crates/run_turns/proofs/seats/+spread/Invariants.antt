use Rattle.run_turns.proofs.seats.+spread.Given as goal

abbrev pub decreases-spread : goal.decreases-spread
decreases-spread l = l.halvings
