use Rattle.std.proofs.Common.{subst, string_bytes}
use Rattle.toml.specs.View.{view, members_view, table_view}
use Rattle.binding_file.specs.Parts.{IsWith}
use Rattle.binding_file.proofs.Walks.{AreSoFar, one_more, all_found}
use Rattle.binding_file.proofs.element.fields_of.Goals as goal

pub keys-preserved : goal.keys-preserved
keys-preserved c =
    let all = table_view c.args.table.now in
    let d = view c.in-Some.value.now in
    one_more c.with_key-fields.result c.keys.fields (string_bytes c.in-Some.key.now) d (members_view c.next.new.self) all
    (subst (λ key. IsWith c.with_key-fields.result c.keys.fields key d) c.as_str.ensures.value c.with_key-fields.ensures)
    (subst (λ es. AreSoFar c.keys.fields (members_view es) all) c.in-Some.ensures.steps c.keys.invariant)

pub returns : goal.returns
returns c =
    let all = table_view c.args.table.now in
    all_found c.keys.fields all (subst (λ es. AreSoFar c.keys.fields (members_view es) all) c.in-None.ensures.steps.0 c.keys.invariant)
