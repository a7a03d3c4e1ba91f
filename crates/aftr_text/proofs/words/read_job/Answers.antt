use Rattle.std.proofs.lemmas.Result.{IfErr-weaker, IfOk-weaker}
use Rattle.aftr_text.specs.Parts.{texts}
use Rattle.aftr_text.proofs.FaultLemmas.{behind, of_words}
use Rattle.aftr_text.proofs.OneJob.{one_asked}
use Rattle.aftr_text.proofs.words.read_job.Goals as goal

pub returns-clause-only : goal.returns-clause-only
returns-clause-only c =
    IfOk-weaker c.read_command.result _ _
    (λ j asks. one_asked c.args.words.now c.in-Some.rest.now c.in-Some.command.now c.in-Some.ensures.cases.0 c.one_address.ensures.v4
    c.in_ok-parts.parts j c.in_ok-parts.ensures.parts asks)
    c.read_command.ensures.job

pub returns-clause-cause : goal.returns-clause-cause
returns-clause-cause c =
    IfErr-weaker c.read_command.result _ _
    (λ e told f is. of_words c.args.words.now c.in-Some.rest.now c.in-Some.command.now c.in-Some.ensures.cases.0 f
    (behind c.in-Some.command.now.now (texts c.in-Some.rest.now) c.in_ok-parts.parts c.in_ok-parts.ensures.parts f (told f is)))
    c.read_command.ensures.cause
