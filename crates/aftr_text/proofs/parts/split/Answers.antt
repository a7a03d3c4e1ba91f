use Rattle.std.proofs.Common.{◌≡◌, ◌≢◌, List, ℕ, None, rules}
use Rattle.aftr_text.specs.Faults.{IsFaultBehind}
use Rattle.aftr_text.specs.Parts.{parts_of, texts}
use Rattle.aftr_text.specs.declared.faults.Fault.{Fault}
use Rattle.aftr_text.specs.declared.faults.Fault.TheVariants as fault
use Rattle.aftr_text.specs.declared.faults.JobError.TheVariants as error_is
use Rattle.aftr_text.proofs.FaultLemmas.{from_cause, front_more, no_room, read_more, stray_at, waits_more}
use Rattle.aftr_text.proofs.PartLemmas.{refused}
use Rattle.aftr_text.proofs.parts.split.Goals as goal

pub returns-in_err-waiting-clause-usage : goal.returns-in_err-waiting-clause-usage
returns-in_err-waiting-clause-usage c =
    let none : c.in_err-waiting.field-0.0 ≢ error_is.OutOfMemory → parts_of None (texts c.args.words.now) ≡ None =
    λ e. refused c.words.parts c.words.waiting c.args.words.now c.words.at _ c.words-test.true c.words.invariant.read (c.in_err-waiting.ensures.usage e) in
    search rules

pub returns-in_err-waiting-clause-cause : goal.returns-in_err-waiting-clause-cause
returns-in_err-waiting-clause-cause c =
    let told : (f : Fault) → c.in_err-waiting.field-0.0 ≡ error_is.Refused f → (command : List ℕ) → IsFaultBehind command (texts c.args.words.now) f =
    λ f e command. from_cause (IsFaultBehind command (texts c.args.words.now)) c.in_err-waiting.field-0.0 (fault.Stray c.words.at)
    (λ o. (c.in_err-waiting.ensures.stray o).0)
    (stray_at c.words.parts c.words.waiting c.args.words.now c.words.at _ c.words-test.true c.words.invariant.front
    (c.in_err-waiting.ensures.stray (no_room _ f e)).1 (c.in_err-waiting.ensures.stray (no_room _ f e)).2
    (c.in_err-waiting.ensures.usage (no_room _ f e))) f e in
    search rules

pub words-preserved : goal.words-preserved
words-preserved c =
    let front = front_more c.words.parts c.take.new.self c.words.waiting c.in_ok-waiting.waiting c.args.words.now c.words.at _ c.words-test.true
    c.words.invariant.front c.in_ok-waiting.ensures.taken in
    record {
      read = read_more c.words.parts c.take.new.self c.words.waiting c.in_ok-waiting.waiting c.args.words.now c.words.at _ c.words-test.true
          c.words.invariant.read c.in_ok-waiting.ensures.taken;
      front = front;
      waits = waits_more c.words.parts c.take.new.self c.words.waiting c.in_ok-waiting.waiting c.args.words.now c.words.at _ c.words-test.true
          c.words.invariant.front front c.in_ok-waiting.ensures.waits;
    }
