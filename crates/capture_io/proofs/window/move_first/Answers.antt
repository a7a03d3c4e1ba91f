use Rattle.std.proofs.Common.{◌-◌, take, ◌∙◌, ap}
use Rattle.capture_io.proofs.FetchLemmas.{moved_front}
use Rattle.capture_io.proofs.window.move_first.Goals as goal

pub returns-clause-front : goal.returns-clause-front
returns-clause-front c =
    ap (take (c.args.end - c.args.from)) c.copy_within.ensures.after ∙ moved_front c.args.buffer.now c.args.from c.args.end c.requires.order c.requires.within
