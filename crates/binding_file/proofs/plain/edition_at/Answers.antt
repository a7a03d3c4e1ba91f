use Rattle.std.proofs.Common.{◌≡◌, ◌==◌, ◌<◌, pos, [], ◌∷◌, codes, false, Some, Ok, length, rules, arith, string_bytes, refl}
use Rattle.std.proofs.lemmas.Grind.{common_steps}
use Rattle.binding_rules.specs.declared.settings.Edition.TheVariants as edition
use Rattle.toml.specs.Data.{as_integer}
use Rattle.toml.specs.Parse.{line}
use Rattle.toml.specs.Tables.{key_value}
use Rattle.toml.specs.View.{view}
use Rattle.binding_file.specs.PlainHeads.{IsEditionLine}
use Rattle.binding_file.proofs.PlainTrees.{edition_line}
use Rattle.binding_file.proofs.plain.edition_at.Goals as goal

pub returns-in-Some-eq1 : goal.returns-in-Some-eq1
returns-in-Some-eq1 c =
    let start = c.skip_blank-start.result.now in
    let some : (length start == 0) ≡ false = grind (arith, common_steps) in
    let read : line start ≡ Some ((([], string_bytes c.in-Some.key), key_value (view c.in-Some.value)), c.in-Some.after.now) = search rules in
    let less : length c.in-Some.after.now < length start = search rules in
    let named : string_bytes c.in-Some.key ≡ codes "version" = search rules in
    let integer : as_integer (view c.in-Some.value) ≡ Some (pos 1) = search rules in
    let is : IsEditionLine c.args.text.now edition.One c.in-Some.after.now =
    edition_line c.args.text.now start c.in-Some.after.now (string_bytes c.in-Some.key) (view c.in-Some.value) (pos 1) edition.One c.skip_blank-start.ensures.rest c.skip_blank-start.ensures.within some read less named integer refl in
    search rules

pub returns-in-Some-eq2 : goal.returns-in-Some-eq2
returns-in-Some-eq2 c =
    let start = c.skip_blank-start.result.now in
    let some : (length start == 0) ≡ false = grind (arith, common_steps) in
    let read : line start ≡ Some ((([], string_bytes c.in-Some.key), key_value (view c.in-Some.value)), c.in-Some.after.now) = search rules in
    let less : length c.in-Some.after.now < length start = search rules in
    let named : string_bytes c.in-Some.key ≡ codes "version" = search rules in
    let integer : as_integer (view c.in-Some.value) ≡ Some (pos 2) = search rules in
    let is : IsEditionLine c.args.text.now edition.Two c.in-Some.after.now =
    edition_line c.args.text.now start c.in-Some.after.now (string_bytes c.in-Some.key) (view c.in-Some.value) (pos 2) edition.Two c.skip_blank-start.ensures.rest c.skip_blank-start.ensures.within some read less named integer refl in
    search rules
