use Rattle.std.proofs.Common.{◌≡◌, ◌≢◌, ◌∙◌, ◌<◌, List, ℕ, refl, sym, codes, rules, arith, decimal, inl}
use Rattle.addr_text.specs.Ipv4.{IsV4Text}
use Rattle.clap.specs.Words.{Row, Text}
use Rattle.aftr_text.specs.Commands.{found_in, word_of}
use Rattle.aftr_text.specs.Faults.{HasCause, IsFaultOf}
use Rattle.aftr_text.specs.Jobs.{AsksForNone, IsName}
use Rattle.aftr_text.specs.declared.faults.Fault.TheVariants as fault
use Rattle.aftr_text.specs.declared.faults.JobError.TheVariants as error_is
use Rattle.aftr_text.proofs.AskLemmas.{apart, asked_so_many, finds, no_who, not_so_many, three_words, unfit_who}
use Rattle.aftr_text.proofs.CommandLemmas.{who_found, who_taken, who_words}
use Rattle.aftr_text.proofs.FaultLemmas.{empty_name, for_argument, from_cause, has_options, no_number, wrong_count}
use Rattle.aftr_text.proofs.words.read_who.Goals as goal
use Rattle.aftr_text.proofs.words.read_who.Goals.{In_ok-matches}

-- the word of an argument
abbrev word : In_ok-matches → List ℕ → List ℕ
word c argument = word_of (found_in c.in_ok-matches.matches) argument

found : (c : In_ok-matches) → c.args.parts.now.arguments ≡ who_words (found_in c.in_ok-matches.matches)
found c =
    finds c.in_ok-who_command.ensures c.as_slice.ensures.value c.in_ok-line.ensures (λ (args : List Text) (rows : List Row). args ≡ who_words rows) who_found
    c.in_ok-matches.ensures.taken c.in_ok-matches.ensures.found

-- words that do not fit ask for no job
unfit : (c : In_ok-matches)
    → (IsName (word c (codes "file")) → (a n : ℕ) → IsV4Text (word c (codes "address")) a → n < 65536 → word c (codes "port") ≡ decimal n → ⊥)
    → AsksForNone (codes "who") c.args.parts.now
unfit c none =
    no_who c.args.parts.now (unfit_who c.args.parts.now (word c (codes "file")) (word c (codes "address")) (word c (codes "port")) (found c) none)

pub returns-in_err-matches-clause-usage : goal.returns-in_err-matches-clause-usage
returns-in_err-matches-clause-usage c =
    let none : c.in_err-matches.field-0.0 ≢ error_is.OutOfMemory → AsksForNone (codes "who") c.args.parts.now =
    λ e j a. not_so_many c.in_ok-who_command.ensures c.as_slice.ensures.value c.in_ok-line.ensures who_taken (c.in_err-matches.ensures.usage e)
    (asked_so_many (codes "who") c.args.parts.now j a) in
    search rules

pub returns-in_err-matches-clause-cause : goal.returns-in_err-matches-clause-cause
returns-in_err-matches-clause-cause c =
    let told : HasCause (codes "who") c.args.parts.now c.in_err-matches.field-0.0 =
    wrong_count (codes "who") c.args.parts.now c.in_err-matches.field-0.0
    (λ e. not_so_many c.in_ok-who_command.ensures c.as_slice.ensures.value c.in_ok-line.ensures who_taken (c.in_err-matches.ensures.usage e))
    c.in_err-matches.ensures.count in
    search rules

pub returns-in_err-name-clause-usage : goal.returns-in_err-name-clause-usage
returns-in_err-name-clause-usage c =
    let m = (goal.at.returns-in_err-name-clause-usage c).In_ok-matches in
    let none : c.in_err-name.field-0.0 ≢ error_is.OutOfMemory → AsksForNone (codes "who") c.args.parts.now =
    λ e. unfit m (λ named a n spelled fits is. c.in_err-name.ensures.usage e named) in
    search rules

pub returns-in_err-v4-clause-usage : goal.returns-in_err-v4-clause-usage
returns-in_err-v4-clause-usage c =
    let m = (goal.at.returns-in_err-v4-clause-usage c).In_ok-matches in
    let none : c.in_err-v4.field-0.0 ≢ error_is.OutOfMemory → AsksForNone (codes "who") c.args.parts.now =
    λ e. unfit m (λ named a n spelled fits is. c.in_err-v4.ensures.usage a spelled) in
    search rules

pub returns-in_err-port-clause-usage : goal.returns-in_err-port-clause-usage
returns-in_err-port-clause-usage c =
    let m = (goal.at.returns-in_err-port-clause-usage c).In_ok-matches in
    let none : c.in_err-port.field-0.0 ≢ error_is.OutOfMemory → AsksForNone (codes "who") c.args.parts.now =
    λ e. unfit m (λ named a n spelled fits is. c.in_err-port.ensures.usage n (omega arith) (omega (arith, fits)) is) in
    search rules

pub returns-clause-job : goal.returns-clause-job
returns-clause-job c =
    let m = (goal.at.returns-clause-job c).In_ok-matches in (
      refl,
      record {
        options = c.if-has_options.ensures.0 refl;
        address = word m (codes "address");
        arguments = found m ∙ three_words (word m (codes "file")) (word m (codes "address")) (word m (codes "port"))
            c.in_ok-name.name (word m (codes "address")) (decimal c.in_ok-port.port) (sym c.in_ok-name.ensures.name.0) refl c.in_ok-port.ensures.number.0;
        named = c.in_ok-name.ensures.name.1;
        spelled = c.in_ok-v4.ensures.address;
        fits = omega (arith, c.in_ok-port.ensures.number.2);
      },
    )

pub returns-then-has_options-clause-cause : goal.returns-then-has_options-clause-cause
returns-then-has_options-clause-cause c =
    has_options (codes "who") c.args.parts.now (apart _ _ refl) (λ none. let bad = c.if-has_options.ensures.1 none in absurd cc)

pub returns-in_err-name-clause-cause : goal.returns-in_err-name-clause-cause
returns-in_err-name-clause-cause c =
    let m = (goal.at.returns-in_err-name-clause-cause c).In_ok-matches in
    let told : HasCause (codes "who") c.args.parts.now c.in_err-name.field-0.0 =
    empty_name (codes "who") c.args.parts.now c.in_err-name.field-0.0 (who_words (found_in m.in_ok-matches.matches)) 0 (word m (codes "file")) (found m) refl
    (omega arith) c.in_err-name.ensures.usage c.in_err-name.ensures.cause in
    search rules

pub returns-in_err-v4-clause-cause : goal.returns-in_err-v4-clause-cause
returns-in_err-v4-clause-cause c =
    let m = (goal.at.returns-in_err-v4-clause-cause c).In_ok-matches in
    let told : HasCause (codes "who") c.args.parts.now c.in_err-v4.field-0.0 =
    from_cause (IsFaultOf (codes "who") c.args.parts.now) c.in_err-v4.field-0.0 fault.Address (λ _. c.in_err-v4.ensures.cause)
    (refl, for_argument c.args.parts.now (who_words (found_in m.in_ok-matches.matches)) 1 (word m (codes "address")) _ (found m) refl c.in_err-v4.ensures.usage) in
    search rules

pub returns-in_err-port-clause-cause : goal.returns-in_err-port-clause-cause
returns-in_err-port-clause-cause c =
    let m = (goal.at.returns-in_err-port-clause-cause c).In_ok-matches in
    let told : HasCause (codes "who") c.args.parts.now c.in_err-port.field-0.0 =
    no_number (codes "who") c.args.parts.now c.in_err-port.field-0.0 (who_words (found_in m.in_ok-matches.matches)) 2 (word m (codes "port")) (found m) refl
    0 65535 (inl (refl, refl, refl, refl)) c.in_err-port.ensures.usage c.in_err-port.ensures.cause in
    search rules
