use Rattle.std.proofs.Common.{◌≡◌, Ok, length, rules, arith, sym, ◌∙◌}
use Rattle.binding_rules.specs.Tables.{binding_table}
use Rattle.binding_file.specs.PlainHeads.{IsPlainTree}
use Rattle.table_hints.specs.Rereading.{IsRuling}
use Rattle.table_hints.proofs.RereadingLemmas.{ruled, tree_count}
use Rattle.table_hints.proofs.rereading.plain_reading.Goals as goal

pub returns : goal.returns
returns c =
    let s = c.args.spelled in
    let t = binding_table s.edition s.softwire s.bindings.items in
    let plain : IsPlainTree c.args.text.now t = c.requires.plain in
    let ruling : IsRuling t c.in_ok-refused.refused = search rules in
    let count : c.len-count.result ≡ length s.bindings.items = search (rules, arith) in
    record {
      members = plain.ms;
      document = (c.requires.utf8, plain.document);
      count = count ∙ sym (tree_count plain.ms t plain.tree);
      answer = ruled c.args.text.now t c.in_ok-refused.refused c.requires.size c.requires.cheap (record { gives = Ok plain.ms; given = (c.requires.utf8, plain.document); rest = plain.tree }) ruling;
    }
