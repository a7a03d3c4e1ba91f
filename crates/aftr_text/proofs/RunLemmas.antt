-- What `clap` finds in the words of `run`: five names, and then up to 255 loads.
use Rattle.std.proofs.Common.{◌≡◌, ℕ, ◌≤◌, Bool, true, false, List, [], ◌∷◌, ◌++◌, Some, None, length, refl, sym, ◌∙◌, ap, ap₂, subst, codes, arith, append_assoc}
use Rattle.std.specs.Prelude.{fold, is_some, if◌then◌else◌}
use Rattle.std.proofs.lemmas.List.{append-nil}
use Rattle.std.proofs.lemmas.Bool.{le-ltb, ltb-false}
use Rattle.std.proofs.Math.Dec.{ltb}
use Rattle.clap.specs.declared.error.kind.ErrorKind.TheVariants as kind
use Rattle.clap.specs.Words.{Kinds, Row, Text, built, fault_of, is_simple, is_simple_and_free, matches_of}
use Rattle.clap.specs.Kinds.{or_else, range_kinds, values_kinds}
use Rattle.clap.specs.Walk.{Walk, finished, nothing_held, positional, settled, walk, walk_from, walked}
use Rattle.clap.specs.Simple.{Shape, entered}
use Rattle.clap.specs.Faults.{check_fault, defaults_fault, entered_fault, settle_fault, walk_fault}
use Rattle.clap.specs.declared.builder.value_parser.ValueParser.TheVariants as vp
use Rattle.clap.proofs.OnLiterals.{clap_on_literals}
use Rattle.aftr_text.specs.Commands.{line, run_app, word_of, words_of}
use Rattle.aftr_text.specs.Faults.{TakesSoMany}

pub simple_run : (is_simple run_app ≡ true) × (is_simple_and_free run_app ≡ true)
unfolding clap_on_literals
simple_run = (refl, refl)

abbrev top : Shape
top = (built run_app).top

-- behind the first load: what the names gave, and the loads so far
abbrev among : List Row → List Text → Walk
among rows loads = record {
  held = record { rows = rows; pending = Some (codes "loads", loads); skip = 0 };
  waiting = positional;
  position = 6;
  is_trailing = true;
  stopped = None;
}

one_more : (rows : List Row) (loads : List Text) (word : Text) → walked top.rules [] (among rows loads) word ≡ among rows (loads ++ word ∷ [])
unfolding clap_on_literals
one_more rows loads word = refl

all_more : (rows : List Row) (loads more : List Text) → fold (walked top.rules []) (among rows loads) more ≡ among rows (loads ++ more)
all_more rows loads [] = ap (among rows) (sym (append-nil loads))
all_more rows loads (x ∷ xs) =
    ap (λ (w : Walk). fold (walked top.rules []) w xs) (one_more rows loads x) ∙ all_more rows (loads ++ x ∷ []) xs
    ∙ ap (among rows) (append_assoc loads (x ∷ []) xs)

no_fault : (rows : List Row) (loads : List Text) → walk_fault top [] (among rows loads) [] ≡ []
unfolding clap_on_literals
no_fault rows loads = refl

same_fault : (rows : List Row) (loads : List Text) (x : Text) (xs : List Text) →
    walk_fault top [] (among rows loads) (x ∷ xs) ≡ walk_fault top [] (among rows (loads ++ x ∷ [])) xs
unfolding clap_on_literals
same_fault rows loads x xs = refl

none_wrong : (rows : List Row) (loads more : List Text) → walk_fault top [] (among rows loads) more ≡ []
none_wrong rows loads [] = no_fault rows loads
none_wrong rows loads (x ∷ xs) = same_fault rows loads x xs ∙ none_wrong rows (loads ++ x ∷ []) xs

-- what the five names give
abbrev five : Text → Text → Text → Text → Text → List Row
five i o v s t = (settled top.rules (walk top.rules [] nothing_held (codes "--" ∷ i ∷ o ∷ v ∷ s ∷ t ∷ [])).held).rows

names_walk : (i o v s t l : Text) (ls : List Text) → walk top.rules [] nothing_held (codes "--" ∷ i ∷ o ∷ v ∷ s ∷ t ∷ l ∷ ls)
    ≡ fold (walked top.rules []) (among (five i o v s t) (l ∷ [])) ls
unfolding clap_on_literals
names_walk i o v s t l ls = refl

names_fault : (i o v s t l : Text) (ls : List Text) → walk_fault top [] (walk_from nothing_held) (codes "--" ∷ i ∷ o ∷ v ∷ s ∷ t ∷ l ∷ ls)
    ≡ walk_fault top [] (among (five i o v s t) (l ∷ [])) ls
unfolding clap_on_literals
names_fault i o v s t l ls = refl

at_end : (i o v s t l : Text) (ls : List Text) → walk top.rules [] nothing_held (codes "--" ∷ i ∷ o ∷ v ∷ s ∷ t ∷ l ∷ ls) ≡ among (five i o v s t) (l ∷ ls)
at_end i o v s t l ls = names_walk i o v s t l ls ∙ all_more (five i o v s t) (l ∷ []) ls

-- the kinds of refusal, by those of the walk and by where it ended
abbrev fault_by : Kinds → Walk → Kinds
fault_by kinds w =
    or_else kinds (or_else (entered_fault (built run_app) w.stopped) (or_else (settle_fault top.rules top.args_override_self w.held)
    (or_else (defaults_fault (settled top.rules w.held).rows top.rules)
    (check_fault top (finished top.rules w.held) (is_some (entered (built run_app) w.stopped))))))

whole : (args : List Text) → fault_of run_app (line (codes "run") args)
    ≡ fault_by (walk_fault top [] (walk_from nothing_held) (codes "--" ∷ args)) (walk top.rules [] nothing_held (codes "--" ∷ args))
whole args = refl

values_pass : (xs : List Text) → values_kinds false vp.String xs ≡ []
values_pass [] = refl
values_pass (x ∷ xs) = values_pass xs

by_values : (i o v s t l : Text) (ls : List Text) → fault_by [] (among (five i o v s t) (l ∷ ls))
    ≡ or_else (or_else (range_kinds 0 255 (length (l ∷ ls))) (values_kinds false vp.String (l ∷ ls))) []
unfolding clap_on_literals
by_values i o v s t l ls = refl

-- with loads behind the names, their number alone can be refused
by_count : (i o v s t l : Text) (ls : List Text) → fault_of run_app (line (codes "run") (i ∷ o ∷ v ∷ s ∷ t ∷ l ∷ ls))
    ≡ or_else (or_else (range_kinds 0 255 (length (l ∷ ls))) []) []
by_count i o v s t l ls =
    whole (i ∷ o ∷ v ∷ s ∷ t ∷ l ∷ ls)
    ∙ ap₂ fault_by (names_fault i o v s t l ls ∙ none_wrong (five i o v s t) (l ∷ []) ls) (at_end i o v s t l ls)
    ∙ by_values i o v s t l ls
    ∙ ap (λ (k : Kinds). or_else (or_else (range_kinds 0 255 (length (l ∷ ls))) k) []) (values_pass (l ∷ ls))

-- too few, or too many
abbrev by_tests : Bool → Bool → Kinds
by_tests low high = or_else (or_else (if low then kind.TooFewValues ∷ [] else (if high then kind.TooManyValues ∷ [] else [])) []) []

not_many : (low high : Bool) → by_tests low high ≡ [] → high ≡ false
not_many false false e = refl
not_many false true e = absurd cc
not_many true high e = absurd cc

few_count : (n : ℕ) → or_else (or_else (range_kinds 0 255 n) []) [] ≡ [] → n ≤ 255
few_count n e = ltb-false 255 n (not_many (ltb n 0) (ltb 255 n) e)

fitting_count : (n : ℕ) → n ≤ 255 → or_else (or_else (range_kinds 0 255 n) []) [] ≡ []
fitting_count n e = ap₂ by_tests (le-ltb n 0 (omega arith)) (le-ltb 255 n e)

abbrev rows_of_run : List Text → List Row
rows_of_run args = matches_of run_app (line (codes "run") args)

rows_are : (i o v s t l : Text) (ls : List Text) → rows_of_run (i ∷ o ∷ v ∷ s ∷ t ∷ l ∷ ls) ≡ finished top.rules (among (five i o v s t) (l ∷ ls)).held
rows_are i o v s t l ls = ap (λ (w : Walk). finished top.rules w.held) (at_end i o v s t l ls)

-- the words in their places
abbrev pub IsRead : List Text → List Row → Type 0
IsRead args rows =
    args ≡ word_of rows (codes "input") ∷ word_of rows (codes "output") ∷ word_of rows (codes "verdicts") ∷ word_of rows (codes "versions")
    ∷ word_of rows (codes "table") ∷ words_of rows (codes "loads")

read_loads : (i o v s t l : Text) (ls : List Text) → IsRead (i ∷ o ∷ v ∷ s ∷ t ∷ l ∷ ls) (finished top.rules (among (five i o v s t) (l ∷ ls)).held)
unfolding clap_on_literals
read_loads i o v s t l ls = refl

read_names : (i o v s t : Text) → IsRead (i ∷ o ∷ v ∷ s ∷ t ∷ []) (rows_of_run (i ∷ o ∷ v ∷ s ∷ t ∷ []))
unfolding clap_on_literals
read_names i o v s t = refl

names_taken : (i o v s t : Text) → fault_of run_app (line (codes "run") (i ∷ o ∷ v ∷ s ∷ t ∷ [])) ≡ []
unfolding clap_on_literals
names_taken i o v s t = refl

-- fewer than five words are refused
pub few_words : (args : List Text) → fault_of run_app (line (codes "run") args) ≡ [] → 5 ≤ length args
unfolding clap_on_literals
few_words (i ∷ o ∷ v ∷ s ∷ t ∷ ls) e = omega arith
few_words _ e = absurd cc

pub run_found : (args : List Text) → fault_of run_app (line (codes "run") args) ≡ [] → IsRead args (rows_of_run args) × (length args ≤ 260)
run_found (i ∷ o ∷ v ∷ s ∷ t ∷ []) e = (read_names i o v s t, omega arith)
run_found (i ∷ o ∷ v ∷ s ∷ t ∷ l ∷ ls) e =
    let count = few_count (length (l ∷ ls)) (sym (by_count i o v s t l ls) ∙ e) in
    (subst (IsRead (i ∷ o ∷ v ∷ s ∷ t ∷ l ∷ ls)) (sym (rows_are i o v s t l ls)) (read_loads i o v s t l ls), omega (arith, count))
run_found args e = absurd (omega (arith, few_words args e))

names_and_loads : (i o v s t : Text) (loads : List Text) → length loads ≤ 255 → fault_of run_app (line (codes "run") (i ∷ o ∷ v ∷ s ∷ t ∷ loads)) ≡ []
names_and_loads i o v s t [] few = names_taken i o v s t
names_and_loads i o v s t (l ∷ ls) few = by_count i o v s t l ls ∙ fitting_count (length (l ∷ ls)) few

pub run_taken : (args : List Text) → TakesSoMany (codes "run") (length args) → fault_of run_app (line (codes "run") args) ≡ []
run_taken (i ∷ o ∷ v ∷ s ∷ t ∷ loads) fits = names_and_loads i o v s t loads (omega (arith, fits.1))
run_taken _ fits = absurd (omega (arith, fits.0))
