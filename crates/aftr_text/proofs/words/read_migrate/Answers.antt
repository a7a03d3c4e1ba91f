use Rattle.std.proofs.Common.{◌≡◌, ◌≢◌, ◌∙◌, ◌∷◌, [], List, ℕ, ap, ap₂, refl, sym, codes, rules, arith}
use Rattle.clap.specs.Words.{Row, Text}
use Rattle.aftr_text.specs.Commands.{found_in, word_of}
use Rattle.aftr_text.specs.Faults.{HasCause, IsFaultOf}
use Rattle.aftr_text.specs.Jobs.{AsksForNone, IsName}
use Rattle.aftr_text.specs.declared.faults.Fault.TheVariants as fault
use Rattle.aftr_text.specs.declared.faults.JobError.TheVariants as error_is
use Rattle.aftr_text.proofs.AskLemmas.{apart, asked_so_many, finds, no_migrate, not_so_many, other_texts, same_texts, unfit_migrate}
use Rattle.aftr_text.proofs.CommandLemmas.{migrate_found, migrate_taken, migrate_words}
use Rattle.aftr_text.proofs.FaultLemmas.{as_cause, empty_name, has_options, wrong_count}
use Rattle.aftr_text.proofs.words.read_migrate.Goals as goal
use Rattle.aftr_text.proofs.words.read_migrate.Goals.{In_ok-matches}

-- the word of an argument
abbrev word : In_ok-matches → List ℕ → List ℕ
word c argument = word_of (found_in c.in_ok-matches.matches) argument

found : (c : In_ok-matches) → c.args.parts.now.arguments ≡ migrate_words (found_in c.in_ok-matches.matches)
found c =
    finds c.in_ok-migrate_command.ensures c.as_slice.ensures.value c.in_ok-line.ensures (λ (args : List Text) (rows : List Row). args ≡ migrate_words rows) migrate_found
    c.in_ok-matches.ensures.taken c.in_ok-matches.ensures.found

-- words that do not fit ask for no job
unfit : (c : In_ok-matches)
    → (IsName (word c (codes "input")) → IsName (word c (codes "output")) → word c (codes "input") ≢ word c (codes "output") → ⊥)
    → AsksForNone (codes "migrate") c.args.parts.now
unfit c none = no_migrate c.args.parts.now (unfit_migrate c.args.parts.now (word c (codes "input")) (word c (codes "output")) (found c) none)

pub returns-in_err-matches-clause-usage : goal.returns-in_err-matches-clause-usage
returns-in_err-matches-clause-usage c =
    let none : c.in_err-matches.field-0.0 ≢ error_is.OutOfMemory → AsksForNone (codes "migrate") c.args.parts.now =
    λ e j a. not_so_many c.in_ok-migrate_command.ensures c.as_slice.ensures.value c.in_ok-line.ensures migrate_taken (c.in_err-matches.ensures.usage e)
    (asked_so_many (codes "migrate") c.args.parts.now j a) in
    search rules

pub returns-in_err-matches-clause-cause : goal.returns-in_err-matches-clause-cause
returns-in_err-matches-clause-cause c =
    let told : HasCause (codes "migrate") c.args.parts.now c.in_err-matches.field-0.0 =
    wrong_count (codes "migrate") c.args.parts.now c.in_err-matches.field-0.0
    (λ e. not_so_many c.in_ok-migrate_command.ensures c.as_slice.ensures.value c.in_ok-line.ensures migrate_taken (c.in_err-matches.ensures.usage e))
    c.in_err-matches.ensures.count in
    search rules

pub returns-in_err-input-clause-usage : goal.returns-in_err-input-clause-usage
returns-in_err-input-clause-usage c =
    let m = (goal.at.returns-in_err-input-clause-usage c).In_ok-matches in
    let none : c.in_err-input.field-0.0 ≢ error_is.OutOfMemory → AsksForNone (codes "migrate") c.args.parts.now =
    λ e. unfit m (λ first second apart. c.in_err-input.ensures.usage e first) in
    search rules

pub returns-in_err-output-clause-usage : goal.returns-in_err-output-clause-usage
returns-in_err-output-clause-usage c =
    let m = (goal.at.returns-in_err-output-clause-usage c).In_ok-matches in
    let none : c.in_err-output.field-0.0 ≢ error_is.OutOfMemory → AsksForNone (codes "migrate") c.args.parts.now =
    λ e. unfit m (λ first second apart. c.in_err-output.ensures.usage e second) in
    search rules

pub returns-then-eq-clause-usage : goal.returns-then-eq-clause-usage
returns-then-eq-clause-usage c =
    let m = (goal.at.returns-then-eq-clause-usage c).In_ok-matches in
    let equal = same_texts c.eq.result c.as_str.result.now c.as_str-2.result.now c.in_ok-input.input c.in_ok-output.output c.eq.ensures c.if-eq.true
    c.as_str.ensures c.as_str-2.ensures in
    λ e. unfit m (λ first second apart. apart (sym c.in_ok-input.ensures.name.0 ∙ equal ∙ c.in_ok-output.ensures.name.0))

pub returns-clause-job : goal.returns-clause-job
returns-clause-job c =
    let m = (goal.at.returns-clause-job c).In_ok-matches in (
      refl,
      record {
        options = c.if-has_options.ensures.0 refl;
        arguments = found m ∙ ap₂ (λ (v w : List ℕ). v ∷ w ∷ []) (sym c.in_ok-input.ensures.name.0) (sym c.in_ok-output.ensures.name.0);
        named = (c.in_ok-input.ensures.name.1, c.in_ok-output.ensures.name.1);
        apart = other_texts c.eq.result c.as_str.result.now c.as_str-2.result.now c.in_ok-input.input c.in_ok-output.output c.eq.ensures c.if-eq.false
            c.as_str.ensures c.as_str-2.ensures;
      },
    )

pub returns-then-has_options-clause-cause : goal.returns-then-has_options-clause-cause
returns-then-has_options-clause-cause c =
    has_options (codes "migrate") c.args.parts.now (apart _ _ refl) (λ none. let bad = c.if-has_options.ensures.1 none in absurd cc)

pub returns-in_err-input-clause-cause : goal.returns-in_err-input-clause-cause
returns-in_err-input-clause-cause c =
    let m = (goal.at.returns-in_err-input-clause-cause c).In_ok-matches in
    let told : HasCause (codes "migrate") c.args.parts.now c.in_err-input.field-0.0 =
    empty_name (codes "migrate") c.args.parts.now c.in_err-input.field-0.0 (migrate_words (found_in m.in_ok-matches.matches)) 0 (word m (codes "input")) (found m) refl
    (omega arith) c.in_err-input.ensures.usage c.in_err-input.ensures.cause in
    search rules

pub returns-in_err-output-clause-cause : goal.returns-in_err-output-clause-cause
returns-in_err-output-clause-cause c =
    let m = (goal.at.returns-in_err-output-clause-cause c).In_ok-matches in
    let told : HasCause (codes "migrate") c.args.parts.now c.in_err-output.field-0.0 =
    empty_name (codes "migrate") c.args.parts.now c.in_err-output.field-0.0 (migrate_words (found_in m.in_ok-matches.matches)) 1 (word m (codes "output")) (found m) refl
    (omega arith) c.in_err-output.ensures.usage c.in_err-output.ensures.cause in
    search rules

pub returns-then-eq-clause-cause : goal.returns-then-eq-clause-cause
returns-then-eq-clause-cause c =
    let m = (goal.at.returns-then-eq-clause-cause c).In_ok-matches in
    let equal = same_texts c.eq.result c.as_str.result.now c.as_str-2.result.now c.in_ok-input.input c.in_ok-output.output c.eq.ensures c.if-eq.true
    c.as_str.ensures c.as_str-2.ensures in
    let same : word m (codes "input") ≡ word m (codes "output") = sym c.in_ok-input.ensures.name.0 ∙ equal ∙ c.in_ok-output.ensures.name.0 in
    as_cause (IsFaultOf (codes "migrate") c.args.parts.now) fault.SameTable
    (refl, (word m (codes "input"), found m ∙ ap (λ (n : List ℕ). word m (codes "input") ∷ n ∷ []) (sym same)))
