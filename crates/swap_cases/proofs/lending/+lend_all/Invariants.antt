use Rattle.swap_cases.proofs.lending.+lend_all.Given as goal

abbrev pub decreases-lend_all : goal.decreases-lend_all
decreases-lend_all l = l.share
