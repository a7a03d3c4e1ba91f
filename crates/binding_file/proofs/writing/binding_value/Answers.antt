use Rattle.std.proofs.Common.{ap, ◌∙◌}
use Rattle.toml.specs.Data.{string, table}
use Rattle.toml.specs.View.{view, table_view}
use Rattle.toml.proofs.Views.{view-Table}
use Rattle.binding_file.proofs.Members.{no_entries}
use Rattle.binding_file.proofs.Written.{binding_written, binding_put}
use Rattle.binding_file.proofs.writing.binding_value.Goals as goal

pub returns : goal.returns
returns c =
    let b = c.args.binding in
    let tree = binding_put (table_view c.new-table.result) (table_view c.put.new.table) (table_view c.put-2.new.table) (table_view c.put-3.new.table) (table_view c.put-4.new.table) (table_view c.put-5.new.table)
    b c.write_v6.result.bytes c.write_v4.result.bytes
    (view c.in_ok-b4.b4) (view c.in_ok-v4.v4) (view c.byte.result) (view c.byte-2.result) (view c.number.result)
    (no_entries c.new-table.result c.new-table.ensures.empty)
    (c.in_ok-b4.ensures ∙ ap string c.as_str.ensures.value) (c.in_ok-v4.ensures ∙ ap string c.as_str-2.ensures.value) c.byte.ensures.view c.byte-2.ensures.view c.number.ensures.view
    c.in_ok-put.ensures c.in_ok-put-2.ensures c.in_ok-put-3.ensures c.in_ok-put-4.ensures c.in_ok-put-5.ensures in
    binding_written _ c.write_v6.result.bytes c.write_v4.result.bytes b (view-Table c.put-5.new.table ∙ ap table tree) c.write_v6.ensures.spelled c.write_v4.ensures.spelled c.byte.ensures.fits c.byte-2.ensures.fits c.number.ensures.fits
