use Rattle.std.proofs.Common.{◌≡◌, ◌==◌, ◌||◌, [], false, true, Some, rules, string_bytes}
use Rattle.toml_parser.specs.Lexical.{first, skip_ws}
use Rattle.toml.specs.Parse.{atom, ends_line, key_equals}
use Rattle.toml.specs.View.{view}
use Rattle.binding_file.proofs.PlainLines.{line_pair}
use Rattle.binding_file.proofs.plain_lines.pair_at.Goals as goal

pub returns-in-Some-2-clause-reads : goal.returns-in-Some-2-clause-reads
returns-in-Some-2-clause-reads c =
    let key : key_equals c.args.text.now ≡ Some (([], string_bytes c.in-Some.key), c.in-Some.value.now) = search rules in
    let whole : (first c.in-Some.value.now == 91 || first c.in-Some.value.now == 123) ≡ false = search rules in
    let read : atom c.in-Some.value.now ≡ Some (view c.in-Some-2.value, c.in-Some-2.rest.now) = search rules in
    let ends : ends_line (skip_ws c.in-Some-2.rest.now) ≡ true = search rules in
    line_pair c.args.text.now c.in-Some.value.now c.in-Some-2.rest.now ([], string_bytes c.in-Some.key) (view c.in-Some-2.value) c.requires key whole read ends
