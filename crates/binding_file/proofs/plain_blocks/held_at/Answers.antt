use Rattle.std.proofs.Common.{◌≡◌, ◌==◌, ◌<◌, ◌≤◌, [], false, Some, length, rules, arith, string_bytes}
use Rattle.std.proofs.lemmas.Grind.{common_steps}
use Rattle.toml_parser.specs.Lexical.{skip_blank}
use Rattle.toml.specs.Parse.{line}
use Rattle.toml.specs.Tables.{key_value}
use Rattle.toml.specs.View.{view}
use Rattle.binding_file.specs.Names.{key_of}
use Rattle.binding_file.specs.PlainBlocks.{IsBlock, IsPut}
use Rattle.binding_file.proofs.PlainSteps.{block_here, block_more}
use Rattle.binding_file.proofs.plain_blocks.held_at.Goals as goal

pub lines-init : goal.lines-init
lines-init c = (search rules, omega arith, block_here c.args.text.now c.nothing_held-held.result c.nothing_held-held.ensures)

pub lines-preserved : goal.lines-preserved
lines-preserved c =
    let l = c.lines in
    let start = c.skip_blank-start.result.now in
    let some : (length start == 0) ≡ false = grind (arith, common_steps) in
    let read : line start ≡ Some ((([], string_bytes c.in-Some.key), key_value (view c.in-Some.value)), c.in-Some.after.now) = search rules in
    let less : length c.in-Some.after.now < length start = search rules in
    let within : length start ≤ length l.rest.now = c.skip_blank-start.ensures.within in
    let named : key_of c.in-Some-name_in.name ≡ string_bytes c.in-Some.key = search rules in
    let put : IsPut l.held c.in-Some-name_in.name (view c.in-Some.value) c.in-Some-put.more = search rules in
    let room : length c.in-Some.after.now ≤ length c.args.text.now = omega (arith, l.invariant.1, less, within) in
    let block : IsBlock c.args.text.now c.in-Some-put.more c.in-Some.after.now =
    block_more c.args.text.now l.held c.in-Some-put.more l.rest.now start c.in-Some.after.now (string_bytes c.in-Some.key) c.in-Some-name_in.name (view c.in-Some.value) l.invariant.2 c.skip_blank-start.ensures.rest some read (omega (arith, less, within)) named put in
    (search rules, search rules, search rules)
