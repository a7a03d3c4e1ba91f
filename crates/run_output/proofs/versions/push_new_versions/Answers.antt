use Rattle.std.proofs.Common.{◌∙◌, ◌++◌, ap}
use Rattle.std.specs.Prelude.{string_bytes}
use Rattle.run_output.proofs.VersionLemmas.{told_lines}
use Rattle.run_output.proofs.versions.push_new_versions.Goals as goal

pub returns-clause-lines : goal.returns-clause-lines
returns-clause-lines c = λ later.
    c.in_ok-push_loads.ensures.lines ∙ ap (λ text. string_bytes c.args.lines.now ++ text)
    (told_lines c.args.points.now later c.args.loads.now c.args.slots.now c.args.printed c.last_in_force-to.result c.last_in_force-to.ensures.from c.last_in_force-to.ensures.to
    c.requires.same c.last_in_force-to.ensures.told)
