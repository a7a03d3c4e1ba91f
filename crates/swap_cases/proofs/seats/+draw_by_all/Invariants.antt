use Rattle.swap_cases.proofs.seats.+draw_by_all.Given as goal

abbrev pub decreases-draw_by_all : goal.decreases-draw_by_all
decreases-draw_by_all l = l.share
