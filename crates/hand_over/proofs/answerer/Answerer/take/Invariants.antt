use Rattle.std.proofs.Common.{◌≡◌}
use Rattle.hand_over.specs.Lines.{SameAnswerer, given, taken}
use Rattle.hand_over.proofs.answerer.Answerer.take.Given as goal

abbrev pub invariant-waits : goal.invariant-waits
invariant-waits g l = SameAnswerer l.initial.self l.self × (taken l.self ≡ taken l.initial.self) × (given l.self ≡ given l.initial.self)

abbrev pub invariant-looks : goal.invariant-looks
invariant-looks g l = SameAnswerer l.fn.self l.self × (taken l.self ≡ taken l.fn.self) × (given l.self ≡ given l.fn.self)
