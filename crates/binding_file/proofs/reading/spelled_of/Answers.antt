use Rattle.std.proofs.Common.{Ok, rules}
use Rattle.binding_rules.specs.Tables.{binding_table as table_from}
use Rattle.binding_file.specs.Files.{Says}
use Rattle.binding_file.specs.PlainHeads.{IsPlainTree}
use Rattle.binding_file.proofs.PlainTrees.{says_plain}
use Rattle.binding_file.proofs.reading.spelled_of.Goals as goal

pub returns-in-Ok-Some-clause-read : goal.returns-in-Ok-Some-clause-read
returns-in-Ok-Some-clause-read c =
    let s = c.in-Ok-Some.spelled in
    let plain : IsPlainTree c.args.text.now (table_from s.edition s.softwire s.bindings.items) = search rules in
    let says : Says c.args.text.now (Ok (table_from s.edition s.softwire s.bindings.items)) = says_plain c.args.text.now (table_from s.edition s.softwire s.bindings.items) c.requires.utf8 plain in
    search rules
