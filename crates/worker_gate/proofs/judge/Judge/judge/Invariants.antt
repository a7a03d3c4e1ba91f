use Rattle.worker_gate.proofs.judge.Judge.judge.Given as goal

abbrev pub ghosts-judge_item : goal.ghosts-judge_item
ghosts-judge_item a = record { name = a.blank.name; parts = a.blank.parts }
