use Rattle.std.proofs.Common.{◌+◌, ◌*◌, length}
use Rattle.run_output.proofs.rendering.+beside.Given as goal

abbrev pub decreases-render_from : goal.decreases-render_from
decreases-render_from g l = 3 * length l.parts.now

abbrev pub decreases-render_beside : goal.decreases-render_beside
decreases-render_beside g l = 3 * length l.others.now + 2

abbrev pub decreases-render_beside-rest : goal.decreases-render_beside-rest
decreases-render_beside-rest g l = 3 * length l.others.now + 1
