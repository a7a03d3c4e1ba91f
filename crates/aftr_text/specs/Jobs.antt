-- What the command words ask for. Ours, but for the texts of addresses. Numbers are written in decimal, without a leading zero,
-- a sign or a blank.
use Rattle.std.specs.Prelude.{◌≡◌, ◌≢◌, ◌⊎◌, ℕ, ◌+◌, ◌^◌, ◌<◌, ◌≤◌, List, [], ◌∷◌, ◌++◌, All, bytes_eq, codes}
use Rattle.std.specs.Prelude.{count_by, decimal, length, map, slice_index_or, Option, Some, None}
use Rattle.addr_text.specs.Ipv4.{IsV4Text}
use Rattle.aftr_base.specs.declared.numbers.V4.{V4}
use Rattle.swap_core.specs.Plans.{IsNotBefore, IsWindow, always}
use Rattle.swap_core.specs.declared.plan.Window.{Window}
use Rattle.aftr_text.specs.Parts.{Parts, parts_of}
use Rattle.aftr_text.specs.declared.jobs.Job.{Job}
use Rattle.aftr_text.specs.declared.jobs.Job.TheVariants as job
use Rattle.aftr_text.specs.declared.jobs.RunJob.{RunJob}
use Rattle.aftr_text.specs.declared.jobs.LoadWords.{LoadWords}

-- a name of a file has a byte
abbrev pub IsName : List ℕ → Type 0
IsName name = 1 ≤ length name

-- how a window is written, `EARLIEST-LATEST`
abbrev pub window_text : Window → List ℕ
window_text w = decimal w.earliest ++ (codes "-" ++ decimal w.latest)

-- how a load is written, `EARLIEST-LATEST:NAME`
abbrev pub load_text : LoadWords → List ℕ
load_text load = window_text load.window ++ (codes ":" ++ load.name)

abbrev pub load_texts : List LoadWords → List (List ℕ)
load_texts loads = map load_text loads

-- the loads' windows, one by one
abbrev pub windows_of : List LoadWords → List Window
windows_of loads = map (λ load. load.window) loads

-- no window begins or ends earlier than the one before it
abbrev pub AreRising : List Window → Type 0
AreRising windows = (k : ℕ) → k + 1 < length windows → IsNotBefore (slice_index_or windows (k + 1) always) (slice_index_or windows k always)

-- the names of all files of a run, those that it reads and those that it writes
abbrev pub names_of : RunJob → List (List ℕ)
names_of run = run.input ∷ run.output ∷ run.verdicts ∷ run.versions ∷ run.table ∷ map (λ load. load.name) run.loads

-- a window that may be, and a name
abbrev pub IsLoad : LoadWords → Type 0
IsLoad load = IsWindow load.window × IsName load.name

-- how often the name stands among these
unfoldable pub how_many : List ℕ → List (List ℕ) → ℕ
how_many name names = count_by (λ other. bytes_eq other name) names

-- the name is that of one file alone
abbrev pub StandsOnce : List (List ℕ) → List ℕ → Type 0
StandsOnce names name = how_many name names ≡ 1

abbrev pub IsWorkers : ℕ → Type 0
IsWorkers workers = (1 ≤ workers) × (workers ≤ 16)

-- the number of workers, which is 1 where none is given
abbrev pub AreWorkers : List (List ℕ) → ℕ → Type 0
AreWorkers given workers = ((given ≡ []) × (workers ≡ 1)) ⊎ ((given ≡ decimal workers ∷ []) × IsWorkers workers)

abbrev pub IsRate : ℕ → Type 0
IsRate rate = (1 ≤ rate) × (rate ≤ 1000000)

-- the limit on errors, if one is given
abbrev pub IsLimit : List (List ℕ) → Option ℕ → Type 0
IsLimit given None = given ≡ []
IsLimit given (Some rate) = (given ≡ decimal rate ∷ []) × IsRate rate

-- the options are those of `run` alone
abbrev pub HasNoOptions : Parts → Type 0
HasNoOptions p = (p.workers ≡ []) × (p.errors ≡ [])

abbrev pub AreNames : RunJob → Type 0
AreNames run = All IsName (run.input ∷ run.output ∷ run.verdicts ∷ run.versions ∷ run.table ∷ [])

-- of the files that are written, none has the name of another file
abbrev pub AreApart : RunJob → Type 0
AreApart run = All (StandsOnce (names_of run)) (run.output ∷ run.verdicts ∷ run.versions ∷ [])

pub record AsksRun (p : Parts) (run : RunJob) : Type 0 where
  pub arguments : p.arguments ≡ run.input ∷ run.output ∷ run.verdicts ∷ run.versions ∷ run.table ∷ load_texts run.loads
  pub loads : All IsLoad run.loads
  pub few : length run.loads ≤ 255
  pub names : AreNames run
  pub apart : AreApart run
  pub rising : AreRising (windows_of run.loads)
  pub workers : AreWorkers p.workers run.workers
  pub errors : IsLimit p.errors run.errors

pub record AsksCheck (p : Parts) (name : List ℕ) : Type 0 where
  pub options : HasNoOptions p
  pub arguments : p.arguments ≡ name ∷ []
  pub named : IsName name

pub record AsksWho (p : Parts) (name : List ℕ) (v4 : V4) (port : ℕ) : Type 0 where
  pub options : HasNoOptions p
  pub address : List ℕ
  pub arguments : p.arguments ≡ name ∷ address ∷ decimal port ∷ []
  pub named : IsName name
  pub spelled : IsV4Text address v4.0
  pub fits : port < 65536

pub record AsksDemo (p : Parts) (seed count workers : ℕ) : Type 0 where
  pub options : HasNoOptions p
  pub arguments : p.arguments ≡ decimal seed ∷ decimal count ∷ decimal workers ∷ []
  pub seeded : seed < 2 ^ 64
  pub counted : (1 ≤ count) × (count ≤ 1000000)
  pub worked : IsWorkers workers

pub record AsksMigrate (p : Parts) (input output : List ℕ) : Type 0 where
  pub options : HasNoOptions p
  pub arguments : p.arguments ≡ input ∷ output ∷ []
  pub named : IsName input × IsName output
  pub apart : input ≢ output

-- the command with these parts behind it asks for the job
abbrev pub AsksFor : List ℕ → Parts → Job → Type 0
AsksFor command p (job.Run run) = (command ≡ codes "run") × AsksRun p run
AsksFor command p (job.Check name) = (command ≡ codes "check") × AsksCheck p name
AsksFor command p (job.Who name v4 port) = (command ≡ codes "who") × AsksWho p name v4 port
AsksFor command p (job.Demo seed count workers) = (command ≡ codes "demo") × AsksDemo p seed count workers
AsksFor command p (job.Migrate input output) = (command ≡ codes "migrate") × AsksMigrate p input output

-- it asks for no job
abbrev pub AsksForNone : List ℕ → Parts → Type 0
AsksForNone command p = (j : Job) → AsksFor command p j → ⊥

-- the words ask for the job
abbrev pub Asks : List (List ℕ) → Job → Type 0
Asks [] j = ⊥
Asks (command ∷ rest) j = (p : Parts) × (parts_of None rest ≡ Some p) × AsksFor command p j

-- the words ask for no job
abbrev pub AskNothing : List (List ℕ) → Type 0
AskNothing words = (j : Job) → Asks words j → ⊥
