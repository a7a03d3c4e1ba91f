use Rattle.std.proofs.Common.{◌∙◌}
use Rattle.binding_file.proofs.Members.{put_done}
use Rattle.binding_file.proofs.writing.put.Goals as goal

pub returns : goal.returns
returns c = put_done c.in_ok-key.key _ c.args.value c.args.table.now c.insert.new.self (c.in_ok-key.ensures.ok ∙ c.key.ensures) c.in_ok-insert.ensures.entries
