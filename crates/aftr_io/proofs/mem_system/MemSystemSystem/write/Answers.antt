use Rattle.std.proofs.Common.{string_bytes}
use Rattle.aftr_io.proofs.HandleLemmas.{placed}
use Rattle.aftr_io.proofs.mem_system.MemSystemSystem.write.Goals as goal

pub returns-clause-place : goal.returns-clause-place
returns-clause-place c told = placed (string_bytes c.args.file.now.name) c.args.file.now.at _ c.min-most.result c.in_ok-behind.ensures
