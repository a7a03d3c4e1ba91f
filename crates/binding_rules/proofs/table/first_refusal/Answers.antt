use Rattle.std.proofs.Common.{subst, sym, ◌∙◌}
use Rattle.std.proofs.lemmas.Option.{slice_get_within}
use Rattle.binding_rules.specs.Conflicts.{Conflict}
use Rattle.binding_rules.specs.Scans.{IsFirstPair}
use Rattle.aftr_base.proofs.MemberLemmas.{when_none}
use Rattle.binding_rules.proofs.Firsts.{some_map, first_place, first_pair, none_applies}
use Rattle.binding_rules.proofs.table.first_refusal.Goals as goal

pub returns-then-is_some-2-clause-first : goal.returns-then-is_some-2-clause-first
returns-then-is_some-2-clause-first c =
    let fine = when_none c.settings_refusal-refusal.result _ (sym c.is_some.ensures ∙ c.if-is_some.false) c.settings_refusal-refusal.ensures.fine in
    some_map c.places_refusal-refusal.result _ _
    (first_place c.args.edition c.args.softwire.now c.args.bindings.now fine c.if-bindings-gt-MOST_BINDINGS.false) c.places_refusal-refusal.ensures.first

pub first_conflict-requires-clause-well : goal.first_conflict-requires-clause-well
first_conflict-requires-clause-well c = λ n x e.
    let sound = when_none c.places_refusal-refusal.result _ (sym c.is_some-2.ensures ∙ c.if-is_some-2.false) c.places_refusal-refusal.ensures.sound in
    let here = sound n x (slice_get_within c.args.bindings.now n x e) e in
    record { shape = here.shape; psid = here.psid }

pub returns-in-Some-clause-first : goal.returns-in-Some-clause-first
returns-in-Some-clause-first c =
    let fine = when_none c.settings_refusal-refusal.result _ (sym c.is_some.ensures ∙ c.if-is_some.false) c.settings_refusal-refusal.ensures.fine in
    let sound = when_none c.places_refusal-refusal.result _ (sym c.is_some-2.ensures ∙ c.if-is_some-2.false) c.places_refusal-refusal.ensures.sound in
    let least = subst (IsFirstPair c.args.bindings.now (Conflict c.args.edition) (λ n. Unit {0})) c.in-Some.is c.in_ok-pair.ensures in
    first_pair c.args.edition c.args.softwire.now c.args.bindings.now fine c.if-bindings-gt-MOST_BINDINGS.false sound c.in-Some.pair c.conflict_refusal.result
    least (c.conflict_refusal.ensures c.args.softwire.now)

pub returns-in-None-clause-valid : goal.returns-in-None-clause-valid
returns-in-None-clause-valid c =
    let fine = when_none c.settings_refusal-refusal.result _ (sym c.is_some.ensures ∙ c.if-is_some.false) c.settings_refusal-refusal.ensures.fine in
    let sound = when_none c.places_refusal-refusal.result _ (sym c.is_some-2.ensures ∙ c.if-is_some-2.false) c.places_refusal-refusal.ensures.sound in
    let least = subst (IsFirstPair c.args.bindings.now (Conflict c.args.edition) (λ n. Unit {0})) c.in-None.is c.in_ok-pair.ensures in
    none_applies c.args.edition c.args.softwire.now c.args.bindings.now fine c.if-bindings-gt-MOST_BINDINGS.false sound least
