use Rattle.std.proofs.Common.{ap, refl, sym, ◌∙◌, []}
use Rattle.area_swap.specs.Values.{AreasValue}
use Rattle.run_turns.proofs.Leaving.{leaves_later}
use Rattle.run_turns.proofs.Words.{append-nil}
use Rattle.run_turns.proofs.run.run_team.Goals as goal

pub give_spare_back-requires-clause-same_areas : goal.give_spare_back-requires-clause-same_areas
give_spare_back-requires-clause-same_areas g c =
    λ k d inside. c.run_through-source.ensures.seats k d inside ∙ sym c.requires.its_areas

pub returns-clause-leaves : goal.returns-clause-leaves
returns-clause-leaves g c =
    let run = c.run_through-source.result in
    let back = c.give_spare_back.ensures in
    leaves_later c.ended_of.result (record {
      same_plan = ap (λ (k : AreasValue). k.plan) c.requires.its_areas;
      same_progress = refl;
      same_draws = back.draws;
      news = [];
      points = sym (append-nil run.source.dealer.desk.known.points);
      reads = back.reads_are;
    }) (c.run_through-source.ensures.leaves c.ended_of.result c.ended_of.ensures)
