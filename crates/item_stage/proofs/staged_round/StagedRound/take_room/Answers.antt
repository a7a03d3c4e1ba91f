use Rattle.std.proofs.Common.{◌∙◌, ap}
use Rattle.item_stage.specs.Marks.{Kept}
use Rattle.item_stage.proofs.MarkLemmas.{entries_bare}
use Rattle.item_stage.proofs.staged_round.StagedRound.take_room.Goals as goal

pub returns-clause-entries : goal.returns-clause-entries
returns-clause-entries c =
    entries_bare c.self.inside.form c.self.inside.records c.replace.new.dest.slots (ap (λ (k : Kept). k.slots) c.replace.ensures.after ∙ c.new.ensures)
