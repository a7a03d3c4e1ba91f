use Rattle.std.proofs.Common.{not, rules, tests, string_bytes, ◌∙◌}
use Rattle.std.specs.BTreeMap.{keys}
use Rattle.std.proofs.lemmas.Iterator.Consumers.{YieldsList-from_rest}
use Rattle.std.proofs.lemmas.Iterator.Search.{any_from_yields_List}
use Rattle.binding_file.specs.Keys.{is_one_of, has_other}
use Rattle.binding_file.proofs.Members.{any_key}
use Rattle.binding_file.proofs.keys.has_other.Goals as goal

pub returns : goal.returns
unfolding has_other
returns c =
    any_from_yields_List (λ k. not (is_one_of c.args.names.now (string_bytes k))) _ _ c.any.result c.any.ensures.ran (YieldsList-from_rest (keys c.args.table.now) c.keys.ensures.rest) (λ x b q k. search (rules, tests))
    ∙ any_key (λ k. not (is_one_of c.args.names.now k)) c.args.table.now.entries
