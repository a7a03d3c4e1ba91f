use Rattle.std.proofs.Common.{rules}
use Rattle.std.proofs.lemmas.Fmt.{length-decimal-le}
use Rattle.aftr_text.proofs.lines.push_judged.Goals as goal

pub write_judged-start-requires-clause-room : goal.write_judged-start-requires-clause-room
write_judged-start-requires-clause-room c = search (rules, length-decimal-le 10)
