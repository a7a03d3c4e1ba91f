use Rattle.std.proofs.Common.{◌+◌, ◌*◌, length}
use Rattle.worker_gate.proofs.rounds.+beside.Given as goal

abbrev pub decreases-serve_all : goal.decreases-serve_all
decreases-serve_all g l = 3 * length l.workers.now

abbrev pub decreases-serve_beside : goal.decreases-serve_beside
decreases-serve_beside g l = 3 * length l.others.now + 2

abbrev pub decreases-serve_beside-rest : goal.decreases-serve_beside-rest
decreases-serve_beside-rest g l = 3 * length l.others.now + 1
