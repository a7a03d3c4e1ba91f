use Rattle.std.proofs.Common.{◌∙◌, ap, arith}
use Rattle.std.specs.Prelude.{decimal}
use Rattle.aftr_text.proofs.Raising.{digits_put}
use Rattle.aftr_text.proofs.record_number.RecordNumber.write.Goals as goal

pub returns-clause-written : goal.returns-clause-written
returns-clause-written c =
    let n = c.self.inside in
    digits_put c.args.end n.start c.args.line.now n.digits c.copy_from_slice.new.self (decimal c.args.self.now) c.requires.room c.requires.inside
    c.self.invariant.0 (omega arith) c.copy_from_slice.ensures.after
    (c.self.invariant.1 ∙ ap decimal c.self.view_is)
