use Rattle.std.proofs.Common.{◌≡◌, ◌++◌, true, codes, rules}
use Rattle.toml_parser.specs.Lexical.{skip_ws}
use Rattle.toml.specs.Parse.{ends_line}
use Rattle.binding_file.proofs.PlainLines.{at_settings}
use Rattle.binding_file.proofs.plain_lines.behind_settings.Goals as goal

pub returns-then-ends_line : goal.returns-then-ends_line
returns-then-ends_line c =
    let is : c.args.text.now ≡ codes "[softwire]" ++ c.in_ok-rest.rest.now = search rules in
    let ends : ends_line (skip_ws c.in_ok-rest.rest.now) ≡ true = search rules in
    at_settings c.args.text.now c.in_ok-rest.rest.now is ends
