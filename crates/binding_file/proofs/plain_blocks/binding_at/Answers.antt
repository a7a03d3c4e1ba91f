use Rattle.std.proofs.Common.{◌≡◌, ◌<◌, ◌≤◌, [], ◌∷◌, codes, Some, Ok, length, rules}
use Rattle.toml_parser.specs.Lexical.{skip_blank}
use Rattle.toml.specs.Parse.{line}
use Rattle.toml.specs.Tables.{array_table}
use Rattle.binding_file.specs.Parts.{IsBindingFrom}
use Rattle.binding_file.specs.PlainBlocks.{IsBlock, ShowsHeld, IsBindingBlock}
use Rattle.binding_file.proofs.PlainSteps.{block_binding}
use Rattle.binding_file.proofs.plain_blocks.binding_at.Goals as goal

pub returns-in-Ok : goal.returns-in-Ok
returns-in-Ok c =
    let start = c.skip_blank.result.now in
    let body = c.in-Some.body.now in
    let rest = c.in-Some-2.rest.now in
    let read : line start ≡ Some ((([], codes "binding"), array_table), body) = search rules in
    let shorter : length body < length start = search rules in
    let block : IsBlock body c.in-Some-2.held rest = search rules in
    let less : length rest ≤ length body = search rules in
    let made : IsBindingFrom c.args.at c.fields_in.result (Ok c.in-Ok.binding) = search rules in
    let whole : IsBindingBlock c.args.at c.args.text.now c.in-Ok.binding rest =
    block_binding c.args.at c.args.text.now start body rest c.in-Some-2.held c.fields_in.result c.in-Ok.binding c.skip_blank.ensures.rest c.skip_blank.ensures.within read shorter block less c.fields_in.ensures made in
    search rules
