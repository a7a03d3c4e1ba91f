use Rattle.std.proofs.Common.{◌≡◌, ◌<◌, ◌≤◌, [], ◌∷◌, codes, Some, length, rules, subst, sym}
use Rattle.toml.specs.Parse.{line}
use Rattle.toml.specs.Tables.{std_table}
use Rattle.binding_file.specs.PlainBlocks.{AreBindingBlocks}
use Rattle.binding_file.specs.PlainHeads.{IsEditionLine, AreSettings}
use Rattle.binding_file.proofs.PlainTrees.{plain_is, mark_short}
use Rattle.binding_file.proofs.plain.plain_tree.Goals as goal

pub returns-clause-read : goal.returns-clause-read
returns-clause-read c =
    let text = c.args.text.now in
    let front = c.skip_bom.result.now in
    let rest = c.in-Some.rest.now in
    let start = c.skip_blank.result.now in
    let body = c.in-Some-behind_settings.body.now in
    let after = c.in-Some-2.rest.now in
    let short : length front ≤ length text = rw c.skip_bom.ensures (mark_short text) in
    let edition : IsEditionLine front c.in-Some.edition rest = search rules in
    let header : (line start ≡ Some ((([], codes "softwire"), std_table), body)) × (length body < length start) = search rules in
    let says : AreSettings body c.in-Some-2.softwire after = search rules in
    let blocks : AreBindingBlocks after c.in-Some-3.bindings.items = search rules in
    plain_is text front rest start body after c.in-Some.edition c.in-Some-2.softwire c.in-Some-3.bindings.items c.skip_bom.ensures short edition c.skip_blank.ensures.rest c.skip_blank.ensures.within header says blocks
