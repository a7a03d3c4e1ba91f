use Rattle.std.proofs.Common.{◌≡◌, ◌∙◌, Some, ap, false, is_some, refl, slice_get, sym, true}
use Rattle.capture_io.specs.Records as records
use Rattle.ip_codec.specs.declared.items.Item.TheVariants as item
use Rattle.item_stage.specs.Alone.{item_of}
use Rattle.item_stage.specs.Items.{items_in}
use Rattle.item_stage.specs.Marks.{found_mark, outcome_item, waiting}
use Rattle.item_stage.proofs.MarkLemmas.{item_alone_there, item_by_mark, within_marks, within_records}
use Rattle.item_stage.proofs.WholeLemmas.{known_by, packet_by}
use Rattle.item_stage.proofs.round_view.RoundView.packet_parts.Goals as goal
use Rattle.item_stage.proofs.round_view.RoundView.packet_parts.Goals.{After-get-in-Alone, In-Marked}

-- the item at the index, by its mark
by_mark : (c : In-Marked) → slice_get (items_in c.args.self.now) c.args.index ≡ Some (outcome_item c.in-Marked.mark.now.outcome)
by_mark c =
    let inside = c.self.inside in
    item_by_mark inside.form inside.records.now inside.marks.now.slots c.args.self.now c.self.view_is c.self.invariant c.args.index (found_mark c.get.result)
    c.in-Marked.mark.now (outcome_item c.in-Marked.mark.now.outcome) c.requires.inside c.get.ensures (ap found_mark c.in-Marked.is) refl

-- and by its record, where it has no mark
by_record : (c : After-get-in-Alone) →
    slice_get (items_in c.args.self.now) c.args.index ≡ Some (item_of c.self.inside.form (records.seen c.get-in-Alone.result).bytes)
by_record c =
    let inside = c.self.inside in
    let r = records.seen c.get-in-Alone.result in
    item_alone_there inside.form inside.records.now inside.marks.now.slots c.args.self.now c.self.view_is c.self.invariant c.args.index (found_mark c.get.result) r
    (item_of inside.form r.bytes) c.requires.inside c.get.ensures (ap found_mark c.in-Alone.is) c.get-in-Alone.ensures refl

pub get-requires : goal.get-requires
get-requires c =
    let inside = c.self.inside in
    within_marks inside.form inside.records.now inside.marks.now.slots c.args.self.now c.self.view_is c.self.invariant c.args.index c.requires.inside

pub get-requires-in-Alone : goal.get-requires-in-Alone
get-requires-in-Alone c =
    let inside = c.self.inside in
    within_records inside.form inside.records.now inside.marks.now.slots c.args.self.now c.self.view_is c.self.invariant c.args.index c.requires.inside

pub parts_marked-requires : goal.parts_marked-requires
parts_marked-requires c =
    known_by c.args.self.now c.args.index (outcome_item c.in-Marked.mark.now.outcome) (by_mark (goal.at.parts_marked-requires c).In-Marked) c.requires.known

pub returns-in-Marked : goal.returns-in-Marked
returns-in-Marked c =
    packet_by c.args.self.now c.args.index (outcome_item c.in-Marked.mark.now.outcome) (by_mark (goal.at.returns-in-Marked c).In-Marked) ∙ c.parts_marked.ensures

-- a fragment that waits has no packet
pub unreachable-requires : goal.unreachable-requires
unreachable-requires c =
    let inside = c.self.inside in
    let held : slice_get (items_in c.args.self.now) c.args.index ≡ Some item.Held =
    item_by_mark inside.form inside.records.now inside.marks.now.slots c.args.self.now c.self.view_is c.self.invariant c.args.index (found_mark c.get.result)
    waiting item.Held c.requires.inside c.get.ensures (ap found_mark c.in-Waits.is) refl in
    let known : false ≡ true = known_by c.args.self.now c.args.index item.Held held c.requires.known in
    cc known

pub bytes_known-requires : goal.bytes_known-requires
bytes_known-requires c =
    let r = records.seen c.get-in-Alone.result in
    known_by c.args.self.now c.args.index (item_of c.self.inside.form r.bytes) (by_record (goal.at.bytes_known-requires c).After-get-in-Alone) c.requires.known

pub parts_of-requires : goal.parts_of-requires
parts_of-requires c =
    let r = records.seen c.get-in-Alone.result in
    sym (ap (λ o. is_some o) c.bytes_known.ensures)
    ∙ known_by c.args.self.now c.args.index (item_of c.self.inside.form r.bytes) (by_record (goal.at.parts_of-requires c).After-get-in-Alone) c.requires.known

pub returns-in-Alone : goal.returns-in-Alone
returns-in-Alone c =
    let r = records.seen c.get-in-Alone.result in
    packet_by c.args.self.now c.args.index (item_of c.self.inside.form r.bytes) (by_record (goal.at.returns-in-Alone c).After-get-in-Alone)
    ∙ (c.bytes_known.ensures ∙ c.parts_of.ensures)
