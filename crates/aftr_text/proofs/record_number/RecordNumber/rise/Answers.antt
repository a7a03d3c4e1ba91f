use Rattle.std.proofs.Common.{arith}
use Rattle.aftr_text.proofs.Raising.{raised}
use Rattle.aftr_text.proofs.record_number.RecordNumber.rise.Goals as goal

pub overflow_add-self : goal.overflow_add-self
overflow_add-self c =
    let n = c.self.inside in
    omega (arith, (raised n.number n.start n.digits (omega arith) (omega arith) c.self.invariant.0 c.self.invariant.1 c.if-last-eq57.false).0)

pub invariant_of-self-2 : goal.invariant_of-self-2
invariant_of-self-2 c =
    let n = c.self.inside in
    (c.self.invariant.0, (raised n.number n.start n.digits (omega arith) (omega arith) c.self.invariant.0 c.self.invariant.1 c.if-last-eq57.false).1)
