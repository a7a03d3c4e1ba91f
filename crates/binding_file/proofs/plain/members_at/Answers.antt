use Rattle.std.proofs.Common.{◌≡◌, ◌==◌, ◌<◌, ◌≤◌, [], false, Some, None, length, rules, arith, string_bytes}
use Rattle.std.proofs.lemmas.Grind.{common_steps}
use Rattle.toml.specs.Data.{get_member}
use Rattle.toml.specs.Parse.{line}
use Rattle.toml.specs.Tables.{key_value}
use Rattle.toml.specs.View.{view, table_view}
use Rattle.binding_file.specs.Names.{key_of}
use Rattle.binding_file.specs.Parts.{with_member}
use Rattle.binding_file.specs.PlainHeads.{AreMembers}
use Rattle.binding_file.proofs.Members.{no_entries}
use Rattle.binding_file.proofs.PlainTrees.{members_here, members_more}
use Rattle.binding_file.proofs.plain.members_at.Goals as goal

pub lines-init : goal.lines-init
lines-init c = (search rules, members_here c.args.text.now (table_view c.new-table.result) (no_entries c.new-table.result c.new-table.ensures.empty))

pub lines-preserved : goal.lines-preserved
lines-preserved c =
    let l = c.lines in
    let start = c.skip_blank-start.result.now in
    let some : (length start == 0) ≡ false = grind (arith, common_steps) in
    let read : line start ≡ Some ((([], string_bytes c.in-Some.key), key_value (view c.in-Some.value)), c.in-Some.after.now) = search rules in
    let less : length c.in-Some.after.now < length start = search rules in
    let within : length start ≤ length l.rest.now = c.skip_blank-start.ensures.within in
    let named : key_of c.in-Some-name_in.name ≡ string_bytes c.in-Some.key = search rules in
    let fresh : get_member (key_of c.in-Some-name_in.name) (table_view l.table) ≡ None = search rules in
    let put : table_view c.put.new.table ≡ with_member (key_of c.in-Some-name_in.name) (view c.in-Some.value) (table_view l.table) = search rules in
    let are : AreMembers c.args.text.now (table_view c.put.new.table) c.in-Some.after.now =
    members_more c.args.text.now (table_view l.table) (table_view c.put.new.table) l.rest.now start c.in-Some.after.now (string_bytes c.in-Some.key) c.in-Some-name_in.name (view c.in-Some.value) l.invariant.1 c.skip_blank-start.ensures.rest some read (omega (arith, less, within)) named fresh put in
    (search rules, search rules)
