use Rattle.std.proofs.Common.{◌≡◌, ◌≢◌, ◌∙◌, ◌<◌, ◌≤◌, ◌^◌, List, ℕ, refl, codes, rules, arith, decimal, inl, inr}
use Rattle.clap.specs.Words.{Row, Text}
use Rattle.aftr_text.specs.Commands.{found_in, word_of}
use Rattle.aftr_text.specs.Faults.{HasCause}
use Rattle.aftr_text.specs.Jobs.{AsksForNone, IsWorkers}
use Rattle.aftr_text.specs.declared.faults.JobError.TheVariants as error_is
use Rattle.aftr_text.proofs.AskLemmas.{apart, asked_so_many, finds, no_demo, not_so_many, three_words, unfit_demo}
use Rattle.aftr_text.proofs.CommandLemmas.{demo_found, demo_taken, demo_words}
use Rattle.aftr_text.proofs.FaultLemmas.{has_options, no_number, wrong_count}
use Rattle.aftr_text.proofs.words.read_demo.Goals as goal
use Rattle.aftr_text.proofs.words.read_demo.Goals.{In_ok-matches}

-- the word of an argument
abbrev word : In_ok-matches → List ℕ → List ℕ
word c argument = word_of (found_in c.in_ok-matches.matches) argument

found : (c : In_ok-matches) → c.args.parts.now.arguments ≡ demo_words (found_in c.in_ok-matches.matches)
found c =
    finds c.in_ok-demo_command.ensures c.as_slice.ensures.value c.in_ok-line.ensures (λ (args : List Text) (rows : List Row). args ≡ demo_words rows) demo_found
    c.in_ok-matches.ensures.taken c.in_ok-matches.ensures.found

-- words that do not fit ask for no job
unfit : (c : In_ok-matches) → ((seed count workers : ℕ) → seed < 2 ^ 64 → (1 ≤ count) × (count ≤ 1000000) → IsWorkers workers
    → word c (codes "seed") ≡ decimal seed → word c (codes "count") ≡ decimal count → word c (codes "workers") ≡ decimal workers → ⊥)
    → AsksForNone (codes "demo") c.args.parts.now
unfit c none =
    no_demo c.args.parts.now (unfit_demo c.args.parts.now (word c (codes "seed")) (word c (codes "count")) (word c (codes "workers")) (found c) none)

pub returns-in_err-matches-clause-usage : goal.returns-in_err-matches-clause-usage
returns-in_err-matches-clause-usage c =
    let none : c.in_err-matches.field-0.0 ≢ error_is.OutOfMemory → AsksForNone (codes "demo") c.args.parts.now =
    λ e j a. not_so_many c.in_ok-demo_command.ensures c.as_slice.ensures.value c.in_ok-line.ensures demo_taken (c.in_err-matches.ensures.usage e)
    (asked_so_many (codes "demo") c.args.parts.now j a) in
    search rules

pub returns-in_err-matches-clause-cause : goal.returns-in_err-matches-clause-cause
returns-in_err-matches-clause-cause c =
    let told : HasCause (codes "demo") c.args.parts.now c.in_err-matches.field-0.0 =
    wrong_count (codes "demo") c.args.parts.now c.in_err-matches.field-0.0
    (λ e. not_so_many c.in_ok-demo_command.ensures c.as_slice.ensures.value c.in_ok-line.ensures demo_taken (c.in_err-matches.ensures.usage e))
    c.in_err-matches.ensures.count in
    search rules

pub returns-in_err-seed-clause-usage : goal.returns-in_err-seed-clause-usage
returns-in_err-seed-clause-usage c =
    let m = (goal.at.returns-in_err-seed-clause-usage c).In_ok-matches in
    let none : c.in_err-seed.field-0.0 ≢ error_is.OutOfMemory → AsksForNone (codes "demo") c.args.parts.now =
    λ e. unfit m (λ seed count workers fits counted worked s n w. c.in_err-seed.ensures.usage seed (omega arith) (omega (arith, fits)) s) in
    search rules

pub returns-in_err-count-clause-usage : goal.returns-in_err-count-clause-usage
returns-in_err-count-clause-usage c =
    let m = (goal.at.returns-in_err-count-clause-usage c).In_ok-matches in
    let none : c.in_err-count.field-0.0 ≢ error_is.OutOfMemory → AsksForNone (codes "demo") c.args.parts.now =
    λ e. unfit m (λ seed count workers fits counted worked s n w. c.in_err-count.ensures.usage count counted.0 counted.1 n) in
    search rules

pub returns-in_err-workers-clause-usage : goal.returns-in_err-workers-clause-usage
returns-in_err-workers-clause-usage c =
    let m = (goal.at.returns-in_err-workers-clause-usage c).In_ok-matches in
    let none : c.in_err-workers.field-0.0 ≢ error_is.OutOfMemory → AsksForNone (codes "demo") c.args.parts.now =
    λ e. unfit m (λ seed count workers fits counted worked s n w. c.in_err-workers.ensures.usage workers worked.0 worked.1 w) in
    search rules

pub returns-clause-job : goal.returns-clause-job
returns-clause-job c =
    let m = (goal.at.returns-clause-job c).In_ok-matches in (
      refl,
      record {
        options = c.if-has_options.ensures.0 refl;
        arguments = found m ∙ three_words (word m (codes "seed")) (word m (codes "count")) (word m (codes "workers"))
            (decimal c.in_ok-seed.seed) (decimal c.in_ok-count.count) (decimal c.in_ok-workers.workers)
            c.in_ok-seed.ensures.number.0 c.in_ok-count.ensures.number.0 c.in_ok-workers.ensures.number.0;
        seeded = omega (arith, c.in_ok-seed.ensures.number.2);
        counted = (c.in_ok-count.ensures.number.1, c.in_ok-count.ensures.number.2);
        worked = (c.in_ok-workers.ensures.number.1, c.in_ok-workers.ensures.number.2);
      },
    )

pub returns-then-has_options-clause-cause : goal.returns-then-has_options-clause-cause
returns-then-has_options-clause-cause c =
    has_options (codes "demo") c.args.parts.now (apart _ _ refl) (λ none. let bad = c.if-has_options.ensures.1 none in absurd cc)

pub returns-in_err-seed-clause-cause : goal.returns-in_err-seed-clause-cause
returns-in_err-seed-clause-cause c =
    let m = (goal.at.returns-in_err-seed-clause-cause c).In_ok-matches in
    let told : HasCause (codes "demo") c.args.parts.now c.in_err-seed.field-0.0 =
    no_number (codes "demo") c.args.parts.now c.in_err-seed.field-0.0 (demo_words (found_in m.in_ok-matches.matches)) 0 (word m (codes "seed")) (found m) refl
    0 18446744073709551615 (inr (inl (refl, refl, refl, refl))) c.in_err-seed.ensures.usage c.in_err-seed.ensures.cause in
    search rules

pub returns-in_err-count-clause-cause : goal.returns-in_err-count-clause-cause
returns-in_err-count-clause-cause c =
    let m = (goal.at.returns-in_err-count-clause-cause c).In_ok-matches in
    let told : HasCause (codes "demo") c.args.parts.now c.in_err-count.field-0.0 =
    no_number (codes "demo") c.args.parts.now c.in_err-count.field-0.0 (demo_words (found_in m.in_ok-matches.matches)) 1 (word m (codes "count")) (found m) refl
    1 1000000 (inr (inr (inl (refl, refl, refl, refl)))) c.in_err-count.ensures.usage c.in_err-count.ensures.cause in
    search rules

pub returns-in_err-workers-clause-cause : goal.returns-in_err-workers-clause-cause
returns-in_err-workers-clause-cause c =
    let m = (goal.at.returns-in_err-workers-clause-cause c).In_ok-matches in
    let told : HasCause (codes "demo") c.args.parts.now c.in_err-workers.field-0.0 =
    no_number (codes "demo") c.args.parts.now c.in_err-workers.field-0.0 (demo_words (found_in m.in_ok-matches.matches)) 2 (word m (codes "workers")) (found m) refl
    1 16 (inr (inr (inr (refl, refl, refl, refl)))) c.in_err-workers.ensures.usage c.in_err-workers.ensures.cause in
    search rules
