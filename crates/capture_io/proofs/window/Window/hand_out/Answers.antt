-- The records stand at the front of the buffer, and the rest of the bytes goes over.
use Rattle.std.proofs.Common.{◌-◌, All, map, take, sym, ◌∙◌, ap, subst}
use Rattle.capture_io.specs.Records.{IsWithin, placed}
use Rattle.capture_io.specs.Windows.{Ahead}
use Rattle.capture_io.proofs.FetchLemmas.{rest_moved}
use Rattle.capture_io.proofs.RoundLemmas.{same_records}
use Rattle.capture_io.proofs.window.Window.hand_out.Goals as goal

pub returns-then-ended-clause-records : goal.returns-then-ended-clause-records
returns-then-ended-clause-records c =
    let buffer = c.self.inside.buffer.items in
    let filled = c.self.inside.filled in
    let places = c.args.places.items in
    let each : All (IsWithin (take filled buffer)) places = subst (λ (a : Ahead). All (IsWithin a.bytes) places) (sym c.self.view_is) c.requires.within in
    c.of.ensures ∙ ((λ i. map (placed (c.replace-buffer.ensures.value i).items) places) ∙ (sym (same_records buffer filled places each) ∙ ap (λ (a : Ahead). map (placed a.bytes) places) c.self.view_is))

pub returns-clause-records : goal.returns-clause-records
returns-clause-records c =
    let buffer = c.self.inside.buffer.items in
    let filled = c.self.inside.filled in
    let places = c.args.places.items in
    let each : All (IsWithin (take filled buffer)) places = subst (λ (a : Ahead). All (IsWithin a.bytes) places) (sym c.self.view_is) c.requires.within in
    c.of-2.ensures ∙ ((λ i. map (placed (c.replace-buffer-2.ensures.value i).items) places) ∙ (sym (same_records buffer filled places each) ∙ ap (λ (a : Ahead). map (placed a.bytes) places) c.self.view_is))

pub returns-clause-rest : goal.returns-clause-rest
returns-clause-rest c =
    let filled = c.self.inside.filled in
    let used = c.args.used in
    (λ i. take (c.self.inside.filled - used) (c.replace-buffer-2.ensures.after i).items)
    ∙ rest_moved c.self.inside.buffer.items c.deref.result.now c.put_front.new.buffer.items filled used c.self.inside.last c.args.ended c.args.self.now
    c.self.view_is c.self.invariant c.requires.used c.if-ended.false c.deref.ensures.value c.put_front.ensures.front
