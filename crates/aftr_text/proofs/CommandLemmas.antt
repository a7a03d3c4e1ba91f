-- What `clap` finds in the words of each command, and which it refuses.
use Rattle.std.proofs.Common.{◌≡◌, true, List, [], ◌∷◌, Option, Some, None, length, map, refl, sym, ◌∙◌, ap, ap₂, arith, codes, option_map}
use Rattle.std.specs.Prelude.{IsSomeAnd, unwrap_or}
use Rattle.std.specs.Borrow.{Bor}
use Rattle.clap.specs.Words.{Row, Rule, Text, first_value, fault_of, is_simple, is_simple_and_free, matches_of, new_rule, rule_of, rows_of}
use Rattle.clap.specs.declared.builder.arg.Arg.{Arg}
use Rattle.clap.specs.declared.builder.range.ValueRange.{ValueRange}
use Rattle.clap.specs.declared.parser.matches.Found.{Found}
use Rattle.clap.proofs.OnLiterals.{clap_on_literals}
use Rattle.clap.proofs.WalkLemmas.{first_value-rows, raw_values-rows}
use Rattle.clap.specs.Matches.{matched_of, raw_values}
use Rattle.aftr_text.specs.Faults.{TakesSoMany}
use Rattle.aftr_text.specs.Parts.{texts}
use Rattle.aftr_text.specs.Commands.{check_app, demo_app, line, loads_rule, migrate_app, who_app, word_of, words_of}

-- what the getters read
unwrapped : (o : Option (Bor Text)) (d : Bor Text) → d.now ≡ [] → (unwrap_or o d).now ≡ unwrap_or (option_map (λ s. s.now) o) []
unwrapped None d e = e
unwrapped (Some x) d e = refl

pub word_is : (result : Bor Text) (o : Option (Bor Text)) (d : Bor Text) (f : Found) (id : Text) → result ≡ unwrap_or o d → d.now ≡ []
    → option_map (λ s. s.now) o ≡ first_value f id → result.now ≡ word_of (rows_of f) id
word_is result o d f id e none given =
    ap (λ (b : Bor Text). b.now) e ∙ unwrapped o d none ∙ ap (λ (w : Option Text). unwrap_or w []) (given ∙ first_value-rows f id)

-- the argument that takes the loads
ranged : (o : Option ValueRange) (range : ValueRange) → IsSomeAnd o (λ r. r ≡ range) → o ≡ Some range
ranged None range h = absurd h
ranged (Some r) range h = ap Some h

pub loads_are : (a b : Arg) → rule_of a ≡ new_rule (codes "loads") → b ≡ record a { num_vals = b.num_vals }
    → IsSomeAnd b.num_vals (λ r. r ≡ record { start_inclusive = 0; end_inclusive = 255 }) → rule_of b ≡ loads_rule
loads_are a b is given range =
    ap rule_of given
    ∙ ap₂ (λ (r : Rule) (n : Option ValueRange). record r { range = n }) is (ranged b.num_vals (record { start_inclusive = 0; end_inclusive = 255 }) range)

pub simple_check : (is_simple check_app ≡ true) × (is_simple_and_free check_app ≡ true)
unfolding clap_on_literals
simple_check = (refl, refl)

pub simple_who : (is_simple who_app ≡ true) × (is_simple_and_free who_app ≡ true)
unfolding clap_on_literals
simple_who = (refl, refl)

pub simple_demo : (is_simple demo_app ≡ true) × (is_simple_and_free demo_app ≡ true)
unfolding clap_on_literals
simple_demo = (refl, refl)

pub simple_migrate : (is_simple migrate_app ≡ true) × (is_simple_and_free migrate_app ≡ true)
unfolding clap_on_literals
simple_migrate = (refl, refl)

-- the arguments of a command by what is found, and how many it takes
abbrev pub check_words : List Row → List Text
check_words rows = word_of rows (codes "file") ∷ []

pub check_found : (args : List Text) → fault_of check_app (line (codes "check") args) ≡ [] → args ≡ check_words (matches_of check_app (line (codes "check") args))
unfolding clap_on_literals
check_found (a ∷ []) e = refl
check_found _ e = absurd cc

pub check_taken : (args : List Text) → TakesSoMany (codes "check") (length args) → fault_of check_app (line (codes "check") args) ≡ []
unfolding clap_on_literals
check_taken (a ∷ []) fits = refl
check_taken _ fits = absurd (omega (arith, fits.0, fits.1))

abbrev pub migrate_words : List Row → List Text
migrate_words rows = word_of rows (codes "input") ∷ word_of rows (codes "output") ∷ []

pub migrate_found : (args : List Text) → fault_of migrate_app (line (codes "migrate") args) ≡ []
    → args ≡ migrate_words (matches_of migrate_app (line (codes "migrate") args))
unfolding clap_on_literals
migrate_found (a ∷ b ∷ []) e = refl
migrate_found _ e = absurd cc

pub migrate_taken : (args : List Text) → TakesSoMany (codes "migrate") (length args) → fault_of migrate_app (line (codes "migrate") args) ≡ []
unfolding clap_on_literals
migrate_taken (a ∷ b ∷ []) fits = refl
migrate_taken _ fits = absurd (omega (arith, fits.0, fits.1))

abbrev pub who_words : List Row → List Text
who_words rows = word_of rows (codes "file") ∷ word_of rows (codes "address") ∷ word_of rows (codes "port") ∷ []

pub who_found : (args : List Text) → fault_of who_app (line (codes "who") args) ≡ [] → args ≡ who_words (matches_of who_app (line (codes "who") args))
unfolding clap_on_literals
who_found (a ∷ b ∷ c ∷ []) e = refl
who_found _ e = absurd cc

pub who_taken : (args : List Text) → TakesSoMany (codes "who") (length args) → fault_of who_app (line (codes "who") args) ≡ []
unfolding clap_on_literals
who_taken (a ∷ b ∷ c ∷ []) fits = refl
who_taken _ fits = absurd (omega (arith, fits.0, fits.1))

abbrev pub demo_words : List Row → List Text
demo_words rows = word_of rows (codes "seed") ∷ word_of rows (codes "count") ∷ word_of rows (codes "workers") ∷ []

pub demo_found : (args : List Text) → fault_of demo_app (line (codes "demo") args) ≡ [] → args ≡ demo_words (matches_of demo_app (line (codes "demo") args))
unfolding clap_on_literals
demo_found (a ∷ b ∷ c ∷ []) e = refl
demo_found _ e = absurd cc

pub demo_taken : (args : List Text) → TakesSoMany (codes "demo") (length args) → fault_of demo_app (line (codes "demo") args) ≡ []
unfolding clap_on_literals
demo_taken (a ∷ b ∷ c ∷ []) fits = refl
demo_taken _ fits = absurd (omega (arith, fits.0, fits.1))

-- the words of an argument that takes several
pub words_are : (o : Option (Bor (List (Bor Text)))) (words : Bor (List (Bor Text))) (f : Found) (id : Text) → o ≡ Some words
    → option_map (λ s. map (λ v. v.now) s.now) o ≡ option_map raw_values (matched_of f id) → texts words.now ≡ words_of (rows_of f) id
words_are o words f id is given =
    ap (λ (w : Option (List Text)). unwrap_or w []) (ap (option_map (λ (s : Bor (List (Bor Text))). texts s.now)) (sym is) ∙ given ∙ raw_values-rows f id)

pub no_words : (o : Option (Bor (List (Bor Text)))) (f : Found) (id : Text) → o ≡ None
    → option_map (λ s. map (λ v. v.now) s.now) o ≡ option_map raw_values (matched_of f id) → words_of (rows_of f) id ≡ []
no_words o f id is given =
    sym (ap (λ (w : Option (List Text)). unwrap_or w []) (ap (option_map (λ (s : Bor (List (Bor Text))). texts s.now)) (sym is) ∙ given ∙ raw_values-rows f id))
