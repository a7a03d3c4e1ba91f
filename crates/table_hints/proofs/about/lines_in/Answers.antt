use Rattle.std.proofs.Common.{◌≡◌, true, rules}
use Rattle.table_costs.specs.Costs.{is_too_costly}
use Rattle.table_hints.specs.Rereading.{HasRefusal, IsRereading}
use Rattle.table_hints.proofs.RereadingLemmas.{all_lines, costly_file, its_own, no_document_lines, other_refusal, same_refusal}
use Rattle.table_hints.proofs.about.lines_in.Goals as goal

pub returns-then-is_too_costly-clause-lines : goal.returns-then-is_too_costly-clause-lines
returns-then-is_too_costly-clause-lines c = λ has.
    let costly : is_too_costly c.args.text.now ≡ true = search rules in
    absurd (costly_file c.args.text.now c.args.refused.now c.requires.one c.requires.size c.requires.utf8 costly c.requires.bindings has)

pub returns-in_default-clause-lines : goal.returns-in_default-clause-lines
returns-in_default-clause-lines c = λ has. no_document_lines c.args.text.now (search rules)

pub returns-else-has_refusal-clause-lines : goal.returns-else-has_refusal-clause-lines
returns-else-has_refusal-clause-lines c = λ has.
    let read : IsRereading c.args.text.now c.in-Some.reading = search rules in
    absurd (other_refusal c.args.text.now c.in-Some.reading.refused c.args.refused.now c.has_refusal.result c.requires.one read.answer c.has_refusal.ensures c.if-has_refusal.false has)

pub returns-then-has_refusal-clause-lines : goal.returns-then-has_refusal-clause-lines
returns-then-has_refusal-clause-lines c = λ has.
    let read : IsRereading c.args.text.now c.in-Some.reading = search rules in
    all_lines c.args.text.now c.in-Some.reading c.lines_of_bindings.result c.requires.told read c.lines_of_bindings.ensures

pub returns-then-has_refusal-clause-its_own : goal.returns-then-has_refusal-clause-its_own
returns-then-has_refusal-clause-its_own c =
    let read : IsRereading c.args.text.now c.in-Some.reading = search rules in
    its_own c.lines_of_bindings.result (same_refusal c.args.text.now c.in-Some.reading.refused c.args.refused.now c.has_refusal.result read.answer c.has_refusal.ensures c.if-has_refusal.true)
