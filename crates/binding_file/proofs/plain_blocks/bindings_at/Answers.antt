use Rattle.std.proofs.Common.{◌≡◌, ◌++◌, ◌≤◌, [], ◌∷◌, length, vec_len, rules, arith, sym, subst, ap, ◌∙◌}
use Rattle.std.proofs.lemmas.Grind.{common_steps}
use Rattle.toml_parser.specs.Lexical.{skip_blank}
use Rattle.binding_file.specs.PlainBlocks.{IsBindingBlock, AreBlocks}
use Rattle.binding_file.proofs.PlainSteps.{first_block, next_block, end_blocks}
use Rattle.binding_file.proofs.plain_blocks.bindings_at.Goals as goal

pub bindings-init : goal.bindings-init
bindings-init c =
    let block : IsBindingBlock 0 c.args.text.now c.in-Some.first c.in-Some.after.now = search rules in
    let items : c.push.new.self.items ≡ c.in-Some.first ∷ [] = search rules in
    let blocks : AreBlocks c.args.text.now c.push.new.self.items c.in-Some.after.now = rw items (first_block c.args.text.now c.in-Some.first c.in-Some.after.now block) in
    (search rules, search (rules, arith), search rules)

pub returns-then-is_empty-clause-read : goal.returns-then-is_empty-clause-read
returns-then-is_empty-clause-read c =
    let l = c.bindings in
    let start_is = c.skip_blank.ensures.rest in
    let none : length (skip_blank l.rest.now) ≡ 0 = grind (arith, common_steps) in
    end_blocks c.args.text.now l.bindings.items l.rest.now l.invariant.2 none

pub bindings-preserved : goal.bindings-preserved
bindings-preserved c =
    let l = c.bindings in
    let at = c.len-in-bindings.result in
    let count : at ≡ length l.bindings.items = search (rules, arith) in
    let block : IsBindingBlock at l.rest.now c.in-Some-2.binding c.in-Some-2.after.now = search rules in
    let items : c.push-in-bindings.new.self.items ≡ l.bindings.items ++ c.in-Some-2.binding ∷ [] = search rules in
    let blocks : AreBlocks c.args.text.now c.push-in-bindings.new.self.items c.in-Some-2.after.now =
    rw items (next_block at c.args.text.now l.bindings.items l.rest.now c.in-Some-2.binding c.in-Some-2.after.now count l.invariant.2 block) in
    (search rules, search (rules, arith), search rules)
