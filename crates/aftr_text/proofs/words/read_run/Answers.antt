use Rattle.std.proofs.Common.{◌≢◌, ◌∙◌, ◌≤◌, List, ℕ, ap, length, refl, sym, codes, rules, subst}
use Rattle.std.specs.Prelude.{slice_get}
use Rattle.clap.specs.Words.{Row, Text}
use Rattle.aftr_text.specs.Commands.{found_in, words_of}
use Rattle.aftr_text.specs.Faults.{HasCause, HasFallen, IsFaultOf}
use Rattle.aftr_text.specs.Jobs.{AreRising, AreWorkers, AsksForNone, IsLimit, windows_of}
use Rattle.aftr_text.specs.declared.parts.Slot.TheVariants as slot_is
use Rattle.aftr_text.specs.declared.jobs.LoadWords.{LoadWords}
use Rattle.aftr_text.specs.declared.jobs.RunJob.{RunJob}
use Rattle.aftr_text.specs.declared.faults.Fault.TheVariants as fault
use Rattle.aftr_text.specs.declared.faults.JobError.TheVariants as error_is
use Rattle.aftr_text.proofs.AskLemmas.{IsFound, IsMade, asked_run, asked_so_many, finds, loads_asked, named_run, no_run, not_so_many, sound_as}
use Rattle.aftr_text.proofs.FaultLemmas.{as_cause, bad_load, from_load, from_values, wrong_count}
use Rattle.aftr_text.proofs.RunLemmas.{IsRead, run_found, run_taken}
use Rattle.aftr_text.proofs.words.read_run.Goals as goal
use Rattle.aftr_text.proofs.words.read_run.Goals.{In_ok-matches, In_ok-table}

found : (c : In_ok-matches) → IsFound c.args.parts.now (found_in c.in_ok-matches.matches)
found c =
    finds c.in_ok-run_command.ensures c.as_slice.ensures.value c.in_ok-line.ensures (λ (args : List Text) (rows : List Row). IsRead args rows × (length args ≤ 260))
    run_found c.in_ok-matches.ensures.taken c.in_ok-matches.ensures.found

-- the job that was read
abbrev run : In_ok-table → RunJob
run c = record {
  input = c.in_ok-input.input;
  output = c.in_ok-output.output;
  verdicts = c.in_ok-verdicts.verdicts;
  versions = c.in_ok-versions.versions;
  table = c.in_ok-table.table;
  loads = c.in_ok-loads.loads;
  workers = c.in_ok-workers.workers;
  errors = c.in_ok-errors.errors;
}

made : (c : In_ok-table) → IsMade (found_in c.in_ok-matches.matches) (run c)
made c = record {
  input = c.in_ok-input.ensures;
  output = c.in_ok-output.ensures;
  verdicts = c.in_ok-verdicts.ensures;
  versions = c.in_ok-versions.ensures;
  table = c.in_ok-table.ensures;
  loads = c.in_ok-loads.ensures.loads.0;
  each = c.in_ok-loads.ensures.loads.1;
}

pub returns-in_err-matches-clause-usage : goal.returns-in_err-matches-clause-usage
returns-in_err-matches-clause-usage c =
    let none : c.in_err-matches.field-0.0 ≢ error_is.OutOfMemory → AsksForNone (codes "run") c.args.parts.now =
    λ e j a. not_so_many c.in_ok-run_command.ensures c.as_slice.ensures.value c.in_ok-line.ensures run_taken (c.in_err-matches.ensures.usage e)
    (asked_so_many (codes "run") c.args.parts.now j a) in
    search rules

pub returns-in_err-workers-clause-usage : goal.returns-in_err-workers-clause-usage
returns-in_err-workers-clause-usage c =
    let none : c.in_err-workers.field-0.0 ≢ error_is.OutOfMemory → AsksForNone (codes "run") c.args.parts.now =
    λ e. no_run c.args.parts.now (λ other a. c.in_err-workers.ensures.usage other.workers
    (subst (λ (g : List (List ℕ)). AreWorkers g other.workers) (sym c.workers.ensures) a.workers)) in
    search rules

pub returns-in_err-loads-clause-usage : goal.returns-in_err-loads-clause-usage
returns-in_err-loads-clause-usage c =
    let rows = found_in c.in_ok-matches.matches in
    let there = found (goal.at.returns-in_err-loads-clause-usage c).In_ok-matches in
    let none : c.in_err-loads.field-0.0 ≢ error_is.OutOfMemory → AsksForNone (codes "run") c.args.parts.now =
    λ e. no_run c.args.parts.now (λ other a. c.in_err-loads.ensures.usage e other.loads a.loads (loads_asked c.args.parts.now rows there other a)) in
    search rules

pub returns-in-Some-clause-usage : goal.returns-in-Some-clause-usage
returns-in-Some-clause-usage c =
    let at = goal.at.returns-in-Some-clause-usage c in
    λ e. no_run c.args.parts.now (λ other a. c.in-Some.ensures.empty (sound_as c.args.parts.now _ (found at.In_ok-matches) other a (run at.In_ok-table) (made at.In_ok-table)).0)

pub returns-in-Some-first_shared-clause-usage : goal.returns-in-Some-first_shared-clause-usage
returns-in-Some-first_shared-clause-usage c =
    let at = goal.at.returns-in-Some-first_shared-clause-usage c in
    λ e. no_run c.args.parts.now (λ other a. c.in-Some-first_shared.ensures.shared (sound_as c.args.parts.now _ (found at.In_ok-matches) other a (run at.In_ok-table) (made at.In_ok-table)).1)

pub returns-in-Some-first_fall-clause-usage : goal.returns-in-Some-first_fall-clause-usage
returns-in-Some-first_fall-clause-usage c =
    let at = goal.at.returns-in-Some-first_fall-clause-usage c in
    λ e. no_run c.args.parts.now (λ other a.
    let rising = (sound_as c.args.parts.now _ (found at.In_ok-matches) other a (run at.In_ok-table) (made at.In_ok-table)).2 in
    c.in-Some-first_fall.ensures.falls (subst (λ (l : List LoadWords). AreRising (windows_of l)) (sym c.as_slice-2.ensures) rising))

pub returns-clause-job : goal.returns-clause-job
returns-clause-job c =
    let at = goal.at.returns-clause-job c in (
      refl,
      asked_run c.args.parts.now _ (run at.In_ok-table) (found at.In_ok-matches) (made at.In_ok-table) c.in_default.ensures.none c.in_default-first_shared.ensures.none
          (subst (λ (l : List LoadWords). AreRising (windows_of l)) c.as_slice-2.ensures c.in_default-first_fall.ensures.none)
          (subst (λ (g : List (List ℕ)). AreWorkers g c.in_ok-workers.workers) c.workers.ensures c.in_ok-workers.ensures.workers)
          (subst (λ (g : List (List ℕ)). IsLimit g c.in_ok-errors.errors) c.errors.ensures c.in_ok-errors.ensures.limit),
    )

pub returns-in_err-matches-clause-cause : goal.returns-in_err-matches-clause-cause
returns-in_err-matches-clause-cause c =
    let told : HasCause (codes "run") c.args.parts.now c.in_err-matches.field-0.0 =
    wrong_count (codes "run") c.args.parts.now c.in_err-matches.field-0.0
    (λ e. not_so_many c.in_ok-run_command.ensures c.as_slice.ensures.value c.in_ok-line.ensures run_taken (c.in_err-matches.ensures.usage e))
    c.in_err-matches.ensures.count in
    search rules

pub returns-in_err-loads-clause-cause : goal.returns-in_err-loads-clause-cause
returns-in_err-loads-clause-cause c =
    let rows = found_in c.in_ok-matches.matches in
    let there = found (goal.at.returns-in_err-loads-clause-cause c).In_ok-matches in
    let told : HasCause (codes "run") c.args.parts.now c.in_err-loads.field-0.0 =
    from_load (IsFaultOf (codes "run") c.args.parts.now) c.in_err-loads.field-0.0 (words_of rows (codes "loads")) c.in_err-loads.ensures.cause
    (λ at bad. (refl, bad_load c.args.parts.now rows there at bad)) in
    search rules

pub returns-in_err-workers-clause-cause : goal.returns-in_err-workers-clause-cause
returns-in_err-workers-clause-cause c =
    let told : HasCause (codes "run") c.args.parts.now c.in_err-workers.field-0.0 =
    from_values c.args.parts.now slot_is.Workers c.workers.result.now c.in_err-workers.field-0.0 c.workers.ensures c.in_err-workers.ensures.cause in
    search rules

pub returns-in_err-errors-clause-cause : goal.returns-in_err-errors-clause-cause
returns-in_err-errors-clause-cause c =
    let told : HasCause (codes "run") c.args.parts.now c.in_err-errors.field-0.0 =
    from_values c.args.parts.now slot_is.Errors c.errors.result.now c.in_err-errors.field-0.0 c.errors.ensures c.in_err-errors.ensures.cause in
    search rules

pub returns-in-Some-clause-cause : goal.returns-in-Some-clause-cause
returns-in-Some-clause-cause c =
    let at = goal.at.returns-in-Some-clause-cause c in
    let named = named_run c.args.parts.now _ (run at.In_ok-table) (found at.In_ok-matches) (made at.In_ok-table) in
    as_cause (IsFaultOf (codes "run") c.args.parts.now) (fault.Empty c.in-Some.at)
    (c.in-Some.ensures.some.0, ap (λ (l : List (List ℕ)). slice_get l c.in-Some.at) named.arguments ∙ c.in-Some.ensures.some.1)

pub returns-in-Some-first_shared-clause-cause : goal.returns-in-Some-first_shared-clause-cause
returns-in-Some-first_shared-clause-cause c =
    let at = goal.at.returns-in-Some-first_shared-clause-cause c in
    let named = named_run c.args.parts.now _ (run at.In_ok-table) (found at.In_ok-matches) (made at.In_ok-table) in
    as_cause (IsFaultOf (codes "run") c.args.parts.now) (fault.Same c.in-Some-first_shared.at)
    (refl, (run at.In_ok-table, named, c.in-Some-first_shared.ensures.some))

pub returns-in-Some-first_fall-clause-cause : goal.returns-in-Some-first_fall-clause-cause
returns-in-Some-first_fall-clause-cause c =
    let at = goal.at.returns-in-Some-first_fall-clause-cause c in
    let named = named_run c.args.parts.now _ (run at.In_ok-table) (found at.In_ok-matches) (made at.In_ok-table) in
    as_cause (IsFaultOf (codes "run") c.args.parts.now) (fault.Falls c.in-Some-first_fall.at)
    (refl, (run at.In_ok-table, named, subst (λ (l : List LoadWords). HasFallen l c.in-Some-first_fall.at) c.as_slice-2.ensures c.in-Some-first_fall.ensures.some))
