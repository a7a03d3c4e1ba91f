use Rattle.std.proofs.Common.{ap, refl}
use Rattle.capture_io.specs.Records as records
use Rattle.ip_codec.specs.declared.items.Item.TheVariants as item
use Rattle.item_stage.specs.Marks.{found_mark, waiting}
use Rattle.item_stage.proofs.MarkLemmas.{item_alone_there, item_by_mark, within_marks, within_records}
use Rattle.item_stage.proofs.round_view.RoundView.item_into.Goals as goal

pub get-requires : goal.get-requires
get-requires c =
    let inside = c.self.inside in
    within_marks inside.form inside.records.now inside.marks.now.slots c.args.self.now c.self.view_is c.self.invariant c.args.index c.requires

pub get-requires-in-Alone : goal.get-requires-in-Alone
get-requires-in-Alone c =
    let inside = c.self.inside in
    within_records inside.form inside.records.now inside.marks.now.slots c.args.self.now c.self.view_is c.self.invariant c.args.index c.requires

pub returns-in-Alone : goal.returns-in-Alone
returns-in-Alone c =
    let inside = c.self.inside in
    item_alone_there inside.form inside.records.now inside.marks.now.slots c.args.self.now c.self.view_is c.self.invariant c.args.index (found_mark c.get.result)
    (records.seen c.get-in-Alone.result) _ c.requires c.get.ensures (ap found_mark c.in-Alone.is) c.get-in-Alone.ensures c.read_item_into.ensures

pub returns-in-Waits : goal.returns-in-Waits
returns-in-Waits c =
    let inside = c.self.inside in
    item_by_mark inside.form inside.records.now inside.marks.now.slots c.args.self.now c.self.view_is c.self.invariant c.args.index (found_mark c.get.result)
    waiting item.Held c.requires c.get.ensures (ap found_mark c.in-Waits.is) refl

pub returns-in-Marked : goal.returns-in-Marked
returns-in-Marked c =
    let inside = c.self.inside in
    item_by_mark inside.form inside.records.now inside.marks.now.slots c.args.self.now c.self.view_is c.self.invariant c.args.index (found_mark c.get.result)
    c.in-Marked.mark.now _ c.requires c.get.ensures (ap found_mark c.in-Marked.is) c.item_into.ensures
