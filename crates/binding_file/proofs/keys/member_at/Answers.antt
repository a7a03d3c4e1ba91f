use Rattle.std.proofs.Common.{option_map, ap, ◌∙◌}
use Rattle.toml.specs.Data.{get_member}
use Rattle.toml.specs.View.{view, table_view}
use Rattle.toml.proofs.Views.{view_of_ref, view-lookup}
use Rattle.binding_file.specs.Names.{key_of}
use Rattle.binding_file.proofs.keys.member_at.Goals as goal

pub returns : goal.returns
returns c =
    view_of_ref c.get.result ∙ ap (option_map view) c.get.ensures.value ∙ view-lookup c.key.result.now c.args.table.now.entries
    ∙ ap (λ k. get_member k (table_view c.args.table.now)) (c.key.ensures ∙ ap key_of c.name.ensures)
