use Rattle.std.proofs.Common.{◌∙◌, ap, arith, sym}
use Rattle.item_stage.specs.Marks.{entries_by}
use Rattle.item_stage.specs.Stages.{Staged}
use Rattle.item_stage.proofs.RunLemmas.{staged_entries, staged_stands}
use Rattle.item_stage.proofs.stage.Stage.mark_all.Goals as goal

pub returns-in-Ok-clause-entries : goal.returns-in-Ok-clause-entries
returns-in-Ok-clause-entries c taken stands =
    let inside = c.self.inside in
    staged_entries inside.form inside.number inside.failed inside.rows c.args.records.now taken c.args.self.now c.args.start
    (entries_by c.args.self.now.form c.args.records.now c.in-Ok.marks.slots) c.self.view_is c.requires.start stands
    (sym (ap (λ (s : Staged). entries_by s.form c.args.records.now c.in-Ok.marks.slots) c.self.view_is) ∙ c.in-Ok.ensures.marks)

pub returns-in-Ok-clause-stands : goal.returns-in-Ok-clause-stands
returns-in-Ok-clause-stands c taken stands =
    let inside = c.self.inside in
    staged_stands inside.form inside.number inside.failed inside.rows c.args.records.now taken c.args.self.now c.args.start c.number_behind-self-inside.result c.take_all.new.rows c.self.view_is
    c.requires.start stands (omega (arith, c.number_behind-self-inside.ensures, c.len.ensures)) c.in-Ok.ensures.rows
