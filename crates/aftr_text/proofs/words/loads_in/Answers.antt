use Rattle.std.proofs.Common.{◌≢◌, List, ℕ, IfErr, subst, ◌≡◌, [], codes, rules}
use Rattle.clap.specs.Words.{found_of}
use Rattle.aftr_text.specs.Commands.{found_in, words_of}
use Rattle.aftr_text.specs.Faults.{IsBadLoad}
use Rattle.aftr_text.specs.Parts.{texts}
use Rattle.aftr_text.specs.declared.faults.Fault.TheVariants as fault
use Rattle.aftr_text.specs.declared.faults.JobError.TheVariants as error_is
use Rattle.aftr_text.proofs.CommandLemmas.{words_are, no_words}
use Rattle.aftr_text.proofs.words.loads_in.Goals as goal

pub returns-in-Some-clause-loads : goal.returns-in-Some-clause-loads
returns-in-Some-clause-loads c =
    let words : texts c.in-Some.words.now ≡ words_of (found_in c.args.matches.now) (codes "loads") =
    words_are c.get_raw.result c.in-Some.words (found_of c.args.matches.now) (codes "loads") c.in-Some.is c.get_raw.ensures in
    search rules

pub returns-in-Some-clause-usage : goal.returns-in-Some-clause-usage
returns-in-Some-clause-usage c =
    let words : texts c.in-Some.words.now ≡ words_of (found_in c.args.matches.now) (codes "loads") =
    words_are c.get_raw.result c.in-Some.words (found_of c.args.matches.now) (codes "loads") c.in-Some.is c.get_raw.ensures in
    search rules

pub returns-in-None-clause-loads : goal.returns-in-None-clause-loads
returns-in-None-clause-loads c =
    let none : words_of (found_in c.args.matches.now) (codes "loads") ≡ [] =
    no_words c.get_raw.result (found_of c.args.matches.now) (codes "loads") c.in-None.is c.get_raw.ensures in
    search rules

pub returns-in-Some-clause-cause : goal.returns-in-Some-clause-cause
returns-in-Some-clause-cause c =
    let words : texts c.in-Some.words.now ≡ words_of (found_in c.args.matches.now) (codes "loads") =
    words_are c.get_raw.result c.in-Some.words (found_of c.args.matches.now) (codes "loads") c.in-Some.is c.get_raw.ensures in
    subst (λ (l : List (List ℕ)). IfErr c.read_loads.result (λ e. e ≢ error_is.OutOfMemory
    → (at : ℕ) × (e ≡ error_is.Refused (fault.Load at)) × IsBadLoad l at)) words c.read_loads.ensures.cause
