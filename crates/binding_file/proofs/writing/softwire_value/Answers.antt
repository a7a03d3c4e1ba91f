use Rattle.std.proofs.Common.{ap, ◌∙◌}
use Rattle.toml.specs.Data.{string, table}
use Rattle.toml.specs.View.{view, table_view}
use Rattle.toml.proofs.Views.{view-Table}
use Rattle.binding_file.proofs.Members.{no_entries}
use Rattle.binding_file.proofs.Written.{softwire_written, softwire_put}
use Rattle.binding_file.proofs.writing.softwire_value.Goals as goal

pub returns : goal.returns
returns c =
    let s = c.args.softwire in
    let tree = softwire_put (table_view c.new-table.result) (table_view c.put.new.table) (table_view c.put-2.new.table) (table_view c.put-3.new.table) (table_view c.put-4.new.table) (table_view c.put-5.new.table) (table_view c.put-6.new.table) (table_view c.put-7.new.table) (table_view c.put-8.new.table) (table_view c.put-9.new.table)
    s c.write_v6.result.bytes c.write_v4.result.bytes
    (view c.in_ok-aftr.aftr) (view c.in_ok-own.own) (view c.number.result) (view c.number-2.result) (view c.byte.result) (view c.flag.result) (view c.flag-2.result) (view c.flag-3.result) (view c.flag-4.result)
    (no_entries c.new-table.result c.new-table.ensures.empty)
    (c.in_ok-aftr.ensures ∙ ap string c.as_str.ensures.value) (c.in_ok-own.ensures ∙ ap string c.as_str-2.ensures.value) c.number.ensures.view c.number-2.ensures.view c.byte.ensures.view c.flag.ensures c.flag-2.ensures c.flag-3.ensures c.flag-4.ensures
    c.in_ok-put.ensures c.in_ok-put-2.ensures c.in_ok-put-3.ensures c.in_ok-put-4.ensures c.in_ok-put-5.ensures c.in_ok-put-6.ensures c.in_ok-put-7.ensures c.in_ok-put-8.ensures c.in_ok-put-9.ensures in
    softwire_written _ c.write_v6.result.bytes c.write_v4.result.bytes s (view-Table c.put-9.new.table ∙ ap table tree) c.write_v6.ensures.spelled c.write_v4.ensures.spelled c.number.ensures.fits c.number-2.ensures.fits c.byte.ensures.fits
