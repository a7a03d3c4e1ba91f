use Rattle.std.proofs.Common.{◌∙◌, ap, arith, take}
use Rattle.aftr_io.proofs.WindowLemmas.{copied_of}
use Rattle.aftr_io.proofs.window.Window.copy.Goals as goal

pub returns-clause-bytes : goal.returns-clause-bytes
returns-clause-bytes c file stands = copied_of c.args.self.now _ c.self.inside.start c.args.at _ _ file (ap (λ w. w.start) c.self.view_is) (ap (take c.self.inside.ahead) c.deref.ensures.value ∙ ap (λ w. w.bytes) c.self.view_is) (omega (arith, c.if-at-self.false)) (omega (arith, c.copy_from.ensures.count)) c.copy_from.ensures.bytes stands
