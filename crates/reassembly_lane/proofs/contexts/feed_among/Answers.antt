use Rattle.std.proofs.Common.{◌≡◌, ◌+◌, ◌-◌, ◌<◌, ◌≤◌, length, ap, refl, sym, subst, ◌∙◌, arith, Option}
use Rattle.std.specs.BTreeMap.{is_at}
use Rattle.std.specs.Option.{option_map}
use Rattle.std.specs.Prelude.{IfOk}
use Rattle.std.specs.Map.{lookup}
use Rattle.reassembly_lane.specs.Contexts.{with_part}
use Rattle.reassembly_lane.specs.Lanes.{answering, arrival, beginning, fresh, is_long, is_odd, late_numbers, open_at, part_of}
use Rattle.reassembly_lane.specs.Since.{Since}
use Rattle.reassembly_lane.specs.declared.answer.Answer.{Answer}
use Rattle.reassembly_lane.proofs.Begins.{since_going_on}
use Rattle.reassembly_lane.proofs.Entries.{late_and_open}
use Rattle.reassembly_lane.proofs.GoesOn.{beginning_among, full_among, going_among, none_among, on_ok_then, sound_part}
use Rattle.reassembly_lane.proofs.contexts.feed_among.Goals as goal

pub returns-in-Some-clause-fed : goal.returns-in-Some-clause-fed
returns-in-Some-clause-fed g c =
    let es = c.args.contexts.now.entries in
    let new = c.go_on.new.contexts.entries in
    let piece = arrival c.args.piece in
    going_among g.K.Ord.cmp es new piece (part_of c.fragment-fragment.result) c.in-Some.answer (lookup (is_at (g.K.Ord.cmp piece.key)) (open_at piece.time es))
    (ap part_of c.fragment-fragment.ensures)
    (sym (c.if-is_odd.ensures ∙ ap (λ f. is_odd (part_of f)) c.fragment-fragment.ensures))
    (sym (c.if-is_long.ensures ∙ ap (λ f. is_long (part_of f)) c.fragment-fragment.ensures)) refl
    (sym (ap (λ (o : Option Answer). option_map (λ (says : Answer). answering says new) o) c.in-Some.is) ∙ c.in_ok-answer.ensures.goes_on)

pub returns-in-Some-clause-oldest : goal.returns-in-Some-clause-oldest
returns-in-Some-clause-oldest g c =
    let es = c.args.contexts.now.entries in
    let new = c.go_on.new.contexts.entries in
    let piece = arrival c.args.piece in
    since_going_on g.K.Ord.cmp piece.time c.args.oldest.now es new piece.key (part_of c.fragment-fragment.result)
    (sound_part (part_of c.fragment-fragment.result) (sym c.if-is_odd.ensures) (sym c.if-is_long.ensures))
    c.requires.oldest c.in-Some.answer (lookup (is_at (g.K.Ord.cmp piece.key)) (open_at piece.time es)) refl
    (sym (ap (λ (o : Option Answer). option_map (λ (says : Answer). answering says new) o) c.in-Some.is) ∙ c.in_ok-answer.ensures.goes_on)

pub overflow_sub-waiting : goal.overflow_sub-waiting
overflow_sub-waiting g c =
    let n : length (open_at c.args.piece.time c.args.contexts.now.entries) + length (late_numbers c.args.piece.time c.args.contexts.now.entries) ≡ length c.args.contexts.now.entries = late_and_open c.args.piece.time c.args.contexts.now.entries in
    omega arith

pub returns-then-waiting-ge-MOST_CONTEXTS-clause-fed :
    goal.returns-then-waiting-ge-MOST_CONTEXTS-clause-fed
returns-then-waiting-ge-MOST_CONTEXTS-clause-fed g c =
    let es = c.args.contexts.now.entries in
    let piece = arrival c.args.piece in
    full_among g.K.Ord.cmp es c.go_on.new.contexts.entries piece c.args.late (c.in_ok-answer.ensures.none c.in-None.is)
    (sym (c.if-is_odd.ensures ∙ ap (λ f. is_odd (part_of f)) c.fragment-fragment.ensures))
    (sym (c.if-is_long.ensures ∙ ap (λ f. is_long (part_of f)) c.fragment-fragment.ensures))
    (none_among g.K.Ord.cmp es c.go_on.new.contexts.entries piece.key (part_of c.fragment-fragment.result) c.in_ok-answer.field-0 (lookup (is_at (g.K.Ord.cmp piece.key)) (open_at piece.time es)) c.in-None.is
    c.in_ok-answer.ensures.goes_on)
    c.requires.late (subst (λ n. 256 ≤ n - c.args.late) c.len-count.ensures.len c.if-waiting-ge-MOST_CONTEXTS.true)

pub returns-then-waiting-ge-MOST_CONTEXTS-clause-oldest :
    goal.returns-then-waiting-ge-MOST_CONTEXTS-clause-oldest
returns-then-waiting-ge-MOST_CONTEXTS-clause-oldest g c =
    subst (λ l. Since c.args.oldest.now (open_at c.args.piece.time l)) (sym (c.in_ok-answer.ensures.none c.in-None.is)) c.requires.oldest

pub returns-clause-fed : goal.returns-clause-fed
returns-clause-fed g c =
    let es = c.args.contexts.now.entries in
    let new = c.begin.new.contexts.entries in
    let piece = arrival c.args.piece in
    beginning_among g.K.Ord.cmp es new piece c.args.late c.begin.result
    (sym (c.if-is_odd.ensures ∙ ap (λ f. is_odd (part_of f)) c.fragment-fragment.ensures))
    (sym (c.if-is_long.ensures ∙ ap (λ f. is_long (part_of f)) c.fragment-fragment.ensures))
    (none_among g.K.Ord.cmp es c.go_on.new.contexts.entries piece.key (part_of c.fragment-fragment.result) c.in_ok-answer.field-0 (lookup (is_at (g.K.Ord.cmp piece.key)) (open_at piece.time es)) c.in-None.is
    c.in_ok-answer.ensures.goes_on)
    c.requires.late (subst (λ n. n - c.args.late < 256) c.len-count.ensures.len c.if-waiting-ge-MOST_CONTEXTS.false)
    (subst (λ l. IfOk c.begin.result (λ (says : Answer). answering says new ≡ beginning g.K.Ord.cmp l piece.key (with_part (fresh piece.time piece.number) piece.part)))
    (c.in_ok-answer.ensures.none c.in-None.is) c.begin.ensures.begins)

pub returns-clause-oldest : goal.returns-clause-oldest
returns-clause-oldest g c =
    let time = c.args.piece.time in
    on_ok_then (Since c.args.oldest.now (open_at time c.go_on.new.contexts.entries)) (Since c.begin.new.oldest (open_at time c.begin.new.contexts.entries)) c.begin.result
    (subst (λ l. Since c.args.oldest.now (open_at time l)) (sym (c.in_ok-answer.ensures.none c.in-None.is)) c.requires.oldest) c.begin.ensures.oldest
