-- What each command asks for, by what `clap` finds in its words.
use Rattle.std.proofs.Common.{◌≡◌, ◌≢◌, ℕ, ◌+◌, ◌<◌, ◌≤◌, ◌^◌, Bool, true, false, List, [], ◌∷◌, length, refl, sym, ◌∙◌, ap, ap₂, subst, codes, arith}
use Rattle.std.specs.Prelude.{All, bytes_eq, decimal}
use Rattle.std.specs.Borrow.{Bor}
use Rattle.std.proofs.lemmas.Slice.Eq.{bytes_eq-Decides}
use Rattle.std.proofs.lemmas.List.{length-map}
use Rattle.addr_text.specs.Ipv4.{IsV4Text}
use Rattle.aftr_base.specs.declared.numbers.V4.{V4}
use Rattle.clap.specs.Words.{App, Row, Text, fault_of, matches_of}
use Rattle.aftr_text.specs.Commands.{line, word_of, words_of}
use Rattle.aftr_text.specs.Faults.{IsNamed, TakesSoMany}
use Rattle.aftr_text.specs.Jobs.{AsksCheck, AsksDemo, AsksFor, AsksMigrate, AsksRun, AsksWho, AreWorkers, IsLimit, IsLoad, IsName, AreApart, AreNames, AreRising, windows_of, IsWorkers, load_text, load_texts}
use Rattle.aftr_text.specs.Parts.{Parts, texts}
use Rattle.aftr_text.specs.declared.jobs.Job.{Job}
use Rattle.aftr_text.specs.declared.jobs.Job.TheVariants as job
use Rattle.aftr_text.specs.declared.jobs.RunJob.{RunJob}
use Rattle.aftr_text.proofs.LoadLemmas.{one_list}
use Rattle.aftr_text.proofs.RunLemmas.{IsRead}

-- two words that are not the same
pub apart : (a b : List ℕ) → bytes_eq a b ≡ false → a ≢ b
apart a b test e = absurd (cc ((bytes_eq-Decides a b).1 e, test))

-- each command asks for its own kind of job alone
pub no_run : (p : Parts) → ((run : RunJob) → AsksRun p run → ⊥) → (j : Job) → AsksFor (codes "run") p j → ⊥
no_run p none (job.Run run) a = none run a.1
no_run p none _ a = apart _ _ refl a.0

pub no_check : (p : Parts) → ((name : List ℕ) → AsksCheck p name → ⊥) → (j : Job) → AsksFor (codes "check") p j → ⊥
no_check p none (job.Check name) a = none name a.1
no_check p none _ a = apart _ _ refl a.0

pub no_who : (p : Parts) → ((name : List ℕ) (v4 : V4) (port : ℕ) → AsksWho p name v4 port → ⊥) → (j : Job) → AsksFor (codes "who") p j → ⊥
no_who p none (job.Who name v4 port) a = none name v4 port a.1
no_who p none _ a = apart _ _ refl a.0

pub no_demo : (p : Parts) → ((seed count workers : ℕ) → AsksDemo p seed count workers → ⊥) → (j : Job) → AsksFor (codes "demo") p j → ⊥
no_demo p none (job.Demo seed count workers) a = none seed count workers a.1
no_demo p none _ a = apart _ _ refl a.0

pub no_migrate : (p : Parts) → ((input output : List ℕ) → AsksMigrate p input output → ⊥) → (j : Job) → AsksFor (codes "migrate") p j → ⊥
no_migrate p none (job.Migrate input output) a = none input output a.1
no_migrate p none _ a = apart _ _ refl a.0

-- a job that a command asks for has as many arguments as the command takes
so_many : (command own : List ℕ) (n count : ℕ) → command ≡ own → n ≡ count → TakesSoMany own count → TakesSoMany command n
so_many command own n count is same fits = rw is (rw same fits)

pub asked_so_many : (command : List ℕ) (p : Parts) (j : Job) → AsksFor command p j → TakesSoMany command (length p.arguments)
asked_so_many command p (job.Run run) a =
    let loads = length-map run.loads load_text in
    so_many command (codes "run") _ (length run.loads + 5) a.0 (omega (arith, ap length a.1.arguments, loads)) (omega arith, omega (arith, a.1.few))
asked_so_many command p (job.Check name) a = so_many command (codes "check") _ 1 a.0 (ap length a.1.arguments) (omega arith, omega arith)
asked_so_many command p (job.Who name v4 port) a = so_many command (codes "who") _ 3 a.0 (ap length a.1.arguments) (omega arith, omega arith)
asked_so_many command p (job.Demo seed count workers) a = so_many command (codes "demo") _ 3 a.0 (ap length a.1.arguments) (omega arith, omega arith)
asked_so_many command p (job.Migrate input output) a = so_many command (codes "migrate") _ 2 a.0 (ap length a.1.arguments) (omega arith, omega arith)

-- a command's line, read by the app that is its own
module _ {own app : App} {command : List ℕ} {arguments : List Text} {slice words : List (Bor Text)} (is_app : app ≡ own) (is_slice : slice ≡ words)
    (is_line : texts words ≡ line command arguments) where
  in_line : texts slice ≡ line command arguments
  in_line = ap texts is_slice ∙ is_line

  -- where it is refused there are too few arguments or too many
  pub not_so_many : ((args : List Text) → TakesSoMany command (length args) → fault_of own (line command args) ≡ [])
      → fault_of app (texts slice) ≢ [] → TakesSoMany command (length arguments) → ⊥
  not_so_many taken bad fits = bad (ap₂ fault_of is_app in_line ∙ taken arguments fits)

  -- what is found in it
  pub finds : (Finds : List Text → List Row → Type 0)
      → ((args : List Text) → fault_of own (line command args) ≡ [] → Finds args (matches_of own (line command args)))
      → {rows : List Row} → fault_of app (texts slice) ≡ [] → rows ≡ matches_of app (texts slice) → Finds arguments rows
  finds Finds found good is =
      rw is (rw (ap₂ matches_of is_app in_line) (found arguments (ap₂ fault_of (sym is_app) (sym in_line) ∙ good)))

-- what is found in the words of `run`
abbrev pub IsFound : Parts → List Row → Type 0
IsFound p rows = IsRead p.arguments rows × (length p.arguments ≤ 260)

-- a run that is made of the words in their places
pub record IsMade (rows : List Row) (run : RunJob) : Type 0 where
  pub input : run.input ≡ word_of rows (codes "input")
  pub output : run.output ≡ word_of rows (codes "output")
  pub verdicts : run.verdicts ≡ word_of rows (codes "verdicts")
  pub versions : run.versions ≡ word_of rows (codes "versions")
  pub table : run.table ≡ word_of rows (codes "table")
  pub loads : load_texts run.loads ≡ words_of rows (codes "loads")
  pub each : All IsLoad run.loads

pub six : (a b c d e : List ℕ) (r : List (List ℕ)) (a2 b2 c2 d2 e2 : List ℕ) (r2 : List (List ℕ)) → a ∷ b ∷ c ∷ d ∷ e ∷ r ≡ a2 ∷ b2 ∷ c2 ∷ d2 ∷ e2 ∷ r2
    → (a ≡ a2) × (b ≡ b2) × (c ≡ c2) × (d ≡ d2) × (e ≡ e2) × (r ≡ r2)
six a b c d e r a2 b2 c2 d2 e2 r2 same = (cc, cc, cc, cc, cc, cc)

six_back : (a b c d e : List ℕ) (r : List (List ℕ)) (a2 b2 c2 d2 e2 : List ℕ) (r2 : List (List ℕ)) → a ≡ a2 → b ≡ b2 → c ≡ c2 → d ≡ d2 → e ≡ e2 → r ≡ r2
    → a ∷ b ∷ c ∷ d ∷ e ∷ r ≡ a2 ∷ b2 ∷ c2 ∷ d2 ∷ e2 ∷ r2
six_back a b c d e r a2 b2 c2 d2 e2 r2 p q s t u v = cc

pub named_run : (p : Parts) (rows : List Row) (run : RunJob) → IsFound p rows → IsMade rows run → IsNamed p run
named_run p rows run found made = record {
  arguments = found.0 ∙ sym (six_back run.input run.output run.verdicts run.versions run.table (load_texts run.loads) (word_of rows (codes "input"))
      (word_of rows (codes "output")) (word_of rows (codes "verdicts")) (word_of rows (codes "versions")) (word_of rows (codes "table"))
      (words_of rows (codes "loads")) made.input made.output made.verdicts made.versions made.table made.loads);
  loads = made.each;
}

pub asked_run : (p : Parts) (rows : List Row) (run : RunJob) → IsFound p rows → IsMade rows run → AreNames run → AreApart run
    → AreRising (windows_of run.loads) → AreWorkers p.workers run.workers → IsLimit p.errors run.errors → AsksRun p run
asked_run p rows run found made names apart rising workers errors =
    let named = named_run p rows run found made in
    record {
      arguments = named.arguments;
      loads = named.loads;
      few = omega (arith, found.1, ap length named.arguments, length-map run.loads load_text);
      names = names;
      apart = apart;
      rising = rising;
      workers = workers;
      errors = errors;
    }

module _ (p : Parts) (rows : List Row) (found : IsFound p rows) (other : RunJob) (asks : AsksRun p other) where
  places : (other.input ≡ word_of rows (codes "input")) × (other.output ≡ word_of rows (codes "output")) × (other.verdicts ≡ word_of rows (codes "verdicts"))
      × (other.versions ≡ word_of rows (codes "versions")) × (other.table ≡ word_of rows (codes "table")) × (load_texts other.loads ≡ words_of rows (codes "loads"))
  places = six other.input other.output other.verdicts other.versions other.table (load_texts other.loads) (word_of rows (codes "input"))
      (word_of rows (codes "output")) (word_of rows (codes "verdicts")) (word_of rows (codes "versions")) (word_of rows (codes "table"))
      (words_of rows (codes "loads")) (sym asks.arguments ∙ found.0)

  pub loads_asked : load_texts other.loads ≡ words_of rows (codes "loads")
  loads_asked = places.5

  -- any run that is asked for has the files of this one, and so is as sound
  pub sound_as : (run : RunJob) → IsMade rows run → AreNames run × AreApart run × AreRising (windows_of run.loads)
  sound_as run made =
      let i : other.input ≡ run.input = places.0 ∙ sym made.input in
      let o : other.output ≡ run.output = places.1 ∙ sym made.output in
      let v : other.verdicts ≡ run.verdicts = places.2 ∙ sym made.verdicts in
      let s : other.versions ≡ run.versions = places.3 ∙ sym made.versions in
      let t : other.table ≡ run.table = places.4 ∙ sym made.table in
      let l : other.loads ≡ run.loads = one_list other.loads run.loads asks.loads made.each (places.5 ∙ sym made.loads) in
      subst (λ (r : RunJob). AreNames r × AreApart r × AreRising (windows_of r.loads))
      (λ k. record { input = i k; output = o k; verdicts = v k; versions = s k; table = t k; loads = l k; workers = run.workers; errors = run.errors })
      (asks.names, asks.apart, asks.rising)

-- the words of the other commands in their places
pub unnamed_check : (p : Parts) (word : List ℕ) → p.arguments ≡ word ∷ [] → (IsName word → ⊥) → (name : List ℕ) → AsksCheck p name → ⊥
unnamed_check p word found none name a = none (subst IsName (one_first name word (sym a.arguments ∙ found)) a.named)
  where
    one_first : (x y : List ℕ) → x ∷ [] ≡ y ∷ [] → x ≡ y
    one_first x y e = cc

pub two_firsts : (a b c d : List ℕ) → a ∷ b ∷ [] ≡ c ∷ d ∷ [] → (a ≡ c) × (b ≡ d)
two_firsts a b c d e = (cc, cc)

pub unfit_migrate : (p : Parts) (first second : List ℕ) → p.arguments ≡ first ∷ second ∷ [] → (IsName first → IsName second → first ≢ second → ⊥)
    → (input output : List ℕ) → AsksMigrate p input output → ⊥
unfit_migrate p first second found none input output a =
    let same = two_firsts input output first second (sym a.arguments ∙ found) in
    none (subst IsName same.0 a.named.0) (subst IsName same.1 a.named.1) (λ e. a.apart (same.0 ∙ e ∙ sym same.1))

pub three_firsts : (a b c d e f : List ℕ) → a ∷ b ∷ c ∷ [] ≡ d ∷ e ∷ f ∷ [] → (a ≡ d) × (b ≡ e) × (c ≡ f)
three_firsts a b c d e f same = (cc, cc, cc)

pub unfit_who : (p : Parts) (first second third : List ℕ) → p.arguments ≡ first ∷ second ∷ third ∷ []
    → (IsName first → (a n : ℕ) → IsV4Text second a → n < 65536 → third ≡ decimal n → ⊥)
    → (name : List ℕ) (v4 : V4) (port : ℕ) → AsksWho p name v4 port → ⊥
unfit_who p first second third found none name v4 port a =
    let same = three_firsts name a.address (decimal port) first second third (sym a.arguments ∙ found) in
    none (subst IsName same.0 a.named) v4.0 port (subst (λ (t : List ℕ). IsV4Text t v4.0) same.1 a.spelled) a.fits (sym same.2)

pub unfit_demo : (p : Parts) (first second third : List ℕ) → p.arguments ≡ first ∷ second ∷ third ∷ []
    → ((seed count workers : ℕ) → seed < 2 ^ 64 → (1 ≤ count) × (count ≤ 1000000) → IsWorkers workers → first ≡ decimal seed → second ≡ decimal count
    → third ≡ decimal workers → ⊥)
    → (seed count workers : ℕ) → AsksDemo p seed count workers → ⊥
unfit_demo p first second third found none seed count workers a =
    let same = three_firsts (decimal seed) (decimal count) (decimal workers) first second third (sym a.arguments ∙ found) in
    none seed count workers a.seeded a.counted a.worked (sym same.0) (sym same.1) (sym same.2)

pub three_words : (a b c d e f : List ℕ) → a ≡ d → b ≡ e → c ≡ f → a ∷ b ∷ c ∷ [] ≡ d ∷ e ∷ f ∷ []
three_words a b c d e f p q r = cc

-- texts that are compared
pub same_texts : (test : Bool) (a b x y : List ℕ) → test ≡ bytes_eq a b → test ≡ true → a ≡ x → b ≡ y → x ≡ y
same_texts test a b x y is holds p q = sym p ∙ (bytes_eq-Decides a b).0 (sym is ∙ holds) ∙ q

pub other_texts : (test : Bool) (a b x y : List ℕ) → test ≡ bytes_eq a b → test ≡ false → a ≡ x → b ≡ y → x ≢ y
other_texts test a b x y is fails p q e = absurd (cc ((bytes_eq-Decides a b).1 (p ∙ e ∙ sym q), is, fails))
