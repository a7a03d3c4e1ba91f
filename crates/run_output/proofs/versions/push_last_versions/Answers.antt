use Rattle.std.proofs.Common.{◌≡◌, ◌++◌, List, length, subst, sym}
use Rattle.std.specs.Prelude.{IfOk, string_bytes}
use Rattle.run_output.specs.Versions.{NamedSlot, load_lines, named}
use Rattle.run_output.proofs.VersionLemmas.{named_length, to_the_end}
use Rattle.run_output.proofs.versions.push_last_versions.Goals as goal

pub returns-clause-lines : goal.returns-clause-lines
returns-clause-lines c =
    let P : List NamedSlot → Type 0 = λ ns. IfOk c.push_loads.result (λ x. string_bytes c.push_loads.new.lines ≡ string_bytes c.args.lines.now ++ load_lines c.args.points.now ns) in
    subst P (to_the_end (named c.args.loads.now c.args.slots.now) c.args.printed (length c.args.loads.now) (sym (named_length c.args.loads.now c.args.slots.now c.requires.same))) c.push_loads.ensures.lines
