use Rattle.std.proofs.Common.{[], ap, refl}
use Rattle.item_stage.specs.Marks.{found_mark, waiting}
use Rattle.item_stage.proofs.MarkLemmas.{ended_by_mark, none_ended, within_marks}
use Rattle.item_stage.proofs.round_view.RoundView.ended.Goals as goal

pub get-requires : goal.get-requires
get-requires c =
    let inside = c.self.inside in
    within_marks inside.form inside.records.now inside.marks.now.slots c.args.self.now c.self.view_is c.self.invariant c.args.index c.requires

pub returns-in-Alone : goal.returns-in-Alone
returns-in-Alone c =
    let inside = c.self.inside in
    none_ended inside.form inside.records.now inside.marks.now.slots c.args.self.now c.self.view_is c.self.invariant c.args.index (found_mark c.get.result)
    c.requires c.get.ensures (ap found_mark c.in-Alone.is)

pub returns-in-Waits : goal.returns-in-Waits
returns-in-Waits c =
    let inside = c.self.inside in
    ended_by_mark inside.form inside.records.now inside.marks.now.slots c.args.self.now c.self.view_is c.self.invariant c.args.index (found_mark c.get.result)
    waiting [] c.requires c.get.ensures (ap found_mark c.in-Waits.is) refl

pub returns-in-Marked : goal.returns-in-Marked
returns-in-Marked c =
    let inside = c.self.inside in
    ended_by_mark inside.form inside.records.now inside.marks.now.slots c.args.self.now c.self.view_is c.self.invariant c.args.index (found_mark c.get.result)
    c.in-Marked.mark.now c.as_slice.result.now c.requires c.get.ensures (ap found_mark c.in-Marked.is) c.as_slice.ensures
