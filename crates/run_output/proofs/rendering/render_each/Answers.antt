-- All parts are those from the first one on.
use Rattle.run_output.specs.Cells.{cells_in}
use Rattle.run_output.proofs.PartLemmas.{from_first}
use Rattle.run_output.proofs.rendering.render_each.Goals as goal

pub returns-clause-parts : goal.returns-clause-parts
returns-clause-parts g c =
    let round = c.args.round.now in
    from_first round.written round.size (cells_in round) c.render_from.new.parts c.render_from.ensures.parts
