use Rattle.std.proofs.Common.{◌≡◌, ◌≢◌, ◌∙◌, ◌∷◌, [], List, ℕ, ap, refl, sym, codes, rules, arith}
use Rattle.clap.specs.Words.{Row, Text}
use Rattle.aftr_text.specs.Commands.{found_in, word_of}
use Rattle.aftr_text.specs.Faults.{HasCause}
use Rattle.aftr_text.specs.Jobs.{AsksForNone, IsName}
use Rattle.aftr_text.specs.declared.faults.JobError.TheVariants as error_is
use Rattle.aftr_text.proofs.AskLemmas.{apart, asked_so_many, finds, no_check, not_so_many, unnamed_check}
use Rattle.aftr_text.proofs.CommandLemmas.{check_found, check_taken, check_words}
use Rattle.aftr_text.proofs.FaultLemmas.{empty_name, has_options, wrong_count}
use Rattle.aftr_text.proofs.words.read_check.Goals as goal
use Rattle.aftr_text.proofs.words.read_check.Goals.{In_ok-matches}

-- the word of an argument
abbrev word : In_ok-matches → List ℕ → List ℕ
word c argument = word_of (found_in c.in_ok-matches.matches) argument

found : (c : In_ok-matches) → c.args.parts.now.arguments ≡ check_words (found_in c.in_ok-matches.matches)
found c =
    finds c.in_ok-check_command.ensures c.as_slice.ensures.value c.in_ok-line.ensures (λ (args : List Text) (rows : List Row). args ≡ check_words rows) check_found
    c.in_ok-matches.ensures.taken c.in_ok-matches.ensures.found

-- a word that does not fit asks for no job
unfit : (c : In_ok-matches) → (IsName (word c (codes "file")) → ⊥) → AsksForNone (codes "check") c.args.parts.now
unfit c none = no_check c.args.parts.now (unnamed_check c.args.parts.now (word c (codes "file")) (found c) none)

pub returns-in_err-matches-clause-usage : goal.returns-in_err-matches-clause-usage
returns-in_err-matches-clause-usage c =
    let none : c.in_err-matches.field-0.0 ≢ error_is.OutOfMemory → AsksForNone (codes "check") c.args.parts.now =
    λ e j a. not_so_many c.in_ok-check_command.ensures c.as_slice.ensures.value c.in_ok-line.ensures check_taken (c.in_err-matches.ensures.usage e)
    (asked_so_many (codes "check") c.args.parts.now j a) in
    search rules

pub returns-in_err-matches-clause-cause : goal.returns-in_err-matches-clause-cause
returns-in_err-matches-clause-cause c =
    let told : HasCause (codes "check") c.args.parts.now c.in_err-matches.field-0.0 =
    wrong_count (codes "check") c.args.parts.now c.in_err-matches.field-0.0
    (λ e. not_so_many c.in_ok-check_command.ensures c.as_slice.ensures.value c.in_ok-line.ensures check_taken (c.in_err-matches.ensures.usage e))
    c.in_err-matches.ensures.count in
    search rules

pub returns-in_err-name-clause-usage : goal.returns-in_err-name-clause-usage
returns-in_err-name-clause-usage c =
    let m = (goal.at.returns-in_err-name-clause-usage c).In_ok-matches in
    let none : c.in_err-name.field-0.0 ≢ error_is.OutOfMemory → AsksForNone (codes "check") c.args.parts.now =
    λ e. unfit m (c.in_err-name.ensures.usage e) in
    search rules

pub returns-clause-job : goal.returns-clause-job
returns-clause-job c =
    let m = (goal.at.returns-clause-job c).In_ok-matches in (
      refl,
      record {
        options = c.if-has_options.ensures.0 refl;
        arguments = found m ∙ ap (λ (w : List ℕ). w ∷ []) (sym c.in_ok-name.ensures.name.0);
        named = c.in_ok-name.ensures.name.1;
      },
    )

pub returns-then-has_options-clause-cause : goal.returns-then-has_options-clause-cause
returns-then-has_options-clause-cause c =
    has_options (codes "check") c.args.parts.now (apart _ _ refl) (λ none. let bad = c.if-has_options.ensures.1 none in absurd cc)

pub returns-in_err-name-clause-cause : goal.returns-in_err-name-clause-cause
returns-in_err-name-clause-cause c =
    let m = (goal.at.returns-in_err-name-clause-cause c).In_ok-matches in
    let told : HasCause (codes "check") c.args.parts.now c.in_err-name.field-0.0 =
    empty_name (codes "check") c.args.parts.now c.in_err-name.field-0.0 (check_words (found_in m.in_ok-matches.matches)) 0 (word m (codes "file")) (found m) refl
    (omega arith) c.in_err-name.ensures.usage c.in_err-name.ensures.cause in
    search rules
