use Rattle.std.proofs.Common.{Some, Ok, Err, rules}
use Rattle.binding_rules.specs.Tables.{binding_table}
use Rattle.binding_file.specs.Files.{IsTree}
use Rattle.toml.specs.View.{table_view}
use Rattle.table_hints.specs.Rereading.{IsRereading, IsRuling}
use Rattle.table_hints.proofs.RereadingLemmas.{refused_before, ruled}
use Rattle.table_hints.proofs.rereading.tree_reading.Goals as goal

pub returns-in_ok-refused-in-Ok : goal.returns-in_ok-refused-in-Ok
returns-in_ok-refused-in-Ok c =
    let s = c.in-Ok.spelled in
    let t = binding_table s.edition s.softwire s.bindings.items in
    let ms = table_view c.args.document.now in
    let tree : IsTree ms (Ok t) = search rules in
    let ruling : IsRuling t c.in_ok-refused-in-Ok.refused = search rules in
    record {
      members = ms;
      document = c.requires.document;
      count = c.binding_count-count.ensures;
      answer = ruled c.args.text.now t c.in_ok-refused-in-Ok.refused c.requires.size c.requires.cheap (record { gives = Ok ms; given = c.requires.document; rest = tree }) ruling;
    }

pub returns-in-Err-Refused : goal.returns-in-Err-Refused
returns-in-Err-Refused c =
    let ms = table_view c.args.document.now in
    let tree : IsTree ms (Err c.in-Err-Refused.refused) = search rules in
    let read : IsRereading c.args.text.now (record { refused = Some c.in-Err-Refused.refused; count = c.binding_count-count.result }) = record {
      members = ms;
      document = c.requires.document;
      count = c.binding_count-count.ensures;
      answer = refused_before c.args.text.now ms c.in-Err-Refused.refused c.requires.size c.requires.cheap c.requires.document tree;
    } in
    search rules
