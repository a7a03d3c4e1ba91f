-- Why words ask for no job: what a cause says is true of the words. Ours. Arguments, loads and the words behind the command are
-- counted from 0.
use Rattle.std.specs.Prelude.{◌≡◌, ◌≢◌, ◌⊎◌, ℕ, ◌-◌, ◌<◌, ◌≤◌, List, [], ◌∷◌, ◌++◌, All, bytes_eq, codes}
use Rattle.std.specs.Prelude.{decimal, drop, if◌then◌else◌, length, slice_get, slice_index_or, Some, None}
use Rattle.addr_text.specs.Ipv4.{IsV4Text}
use Rattle.swap_core.specs.Plans.{IsNotBefore, always}
use Rattle.aftr_text.specs.Jobs.{HasNoOptions, IsLoad, StandsOnce, load_text, load_texts, names_of, windows_of}
use Rattle.aftr_text.specs.Parts.{Parts, kind_of, parts_of, unknown, wants}
use Rattle.aftr_text.specs.declared.faults.Fault.{Fault}
use Rattle.aftr_text.specs.declared.faults.Fault.TheVariants as fault
use Rattle.aftr_text.specs.declared.faults.JobError.{JobError}
use Rattle.aftr_text.specs.declared.faults.JobError.TheVariants as error
use Rattle.aftr_text.specs.declared.jobs.LoadWords.{LoadWords}
use Rattle.aftr_text.specs.declared.jobs.RunJob.{RunJob}
use Rattle.aftr_text.specs.declared.parts.Slot.{Slot}
use Rattle.aftr_text.specs.declared.parts.Slot.TheVariants.{Workers, Errors}

-- no command has this name
abbrev pub IsNoCommand : List ℕ → Type 0
IsNoCommand word = (word ≢ codes "run") × (word ≢ codes "check") × (word ≢ codes "who") × (word ≢ codes "demo") × (word ≢ codes "migrate")

-- The word at this place begins like an option and is none: with it the words can't be taken apart, whatever follows, and
-- those in front of it can.
pub record IsStray (words : List (List ℕ)) (place : ℕ) : Type 0 where
  pub front : List (List ℕ)
  pub word : List ℕ
  pub behind : List (List ℕ)
  pub stands : words ≡ front ++ (word ∷ behind)
  pub at : length front ≡ place
  pub kind : kind_of word ≡ unknown
  pub parts : Parts
  pub sound : parts_of None front ≡ Some parts
  pub refused : (more : List (List ℕ)) → parts_of None (front ++ (word ∷ more)) ≡ None

-- The last word is an option whose value would be the next word, and those in front of it can be taken apart.
pub record EndsInOption (words : List (List ℕ)) (slot : Slot) : Type 0 where
  pub front : List (List ℕ)
  pub word : List ℕ
  pub last : words ≡ front ++ (word ∷ [])
  pub kind : kind_of word ≡ wants slot
  pub parts : Parts
  pub sound : parts_of None front ≡ Some parts
  pub refused : parts_of None words ≡ None

-- how many arguments a command takes: the five names of `run` and up to 255 loads
abbrev pub least_of : List ℕ → ℕ
least_of command =
    if bytes_eq command (codes "run") then 5 else if bytes_eq command (codes "check") then 1
    else if bytes_eq command (codes "migrate") then 2 else 3

abbrev pub most_of : List ℕ → ℕ
most_of command = if bytes_eq command (codes "run") then 260 else least_of command

abbrev pub TakesSoMany : List ℕ → ℕ → Type 0
TakesSoMany command count = (least_of command ≤ count) × (count ≤ most_of command)

-- how many of the first arguments name files
abbrev pub names_in : List ℕ → ℕ
names_in command =
    if bytes_eq command (codes "run") then 5 else if bytes_eq command (codes "migrate") then 2 else if bytes_eq command (codes "demo") then 0 else 1

-- the word writes no number from `least` to `most`
abbrev pub IsNoNumber : ℕ → ℕ → List ℕ → Type 0
IsNoNumber least most word = (n : ℕ) → least ≤ n → n ≤ most → word ≢ decimal n

-- the argument at this place is a number in this range
abbrev pub IsRange : List ℕ → ℕ → ℕ → ℕ → Type 0
IsRange command at least most =
    ((command ≡ codes "who") × (at ≡ 2) × (least ≡ 0) × (most ≡ 65535))
    ⊎ ((command ≡ codes "demo") × (at ≡ 0) × (least ≡ 0) × (most ≡ 18446744073709551615))
    ⊎ ((command ≡ codes "demo") × (at ≡ 1) × (least ≡ 1) × (most ≡ 1000000))
    ⊎ ((command ≡ codes "demo") × (at ≡ 2) × (least ≡ 1) × (most ≡ 16))

-- the argument at this place is such a word
abbrev pub ForArgument : Parts → ℕ → (List ℕ → Type 0) → Type 0
ForArgument p at Holds = (word : List ℕ) × (slice_get p.arguments at ≡ Some word) × Holds word

-- the values that an option is given, and the greatest number that it may be
abbrev pub values_of : Slot → Parts → List (List ℕ)
values_of Workers p = p.workers
values_of Errors p = p.errors

abbrev pub greatest_of : Slot → ℕ
greatest_of Workers = 16
greatest_of Errors = 1000000

-- the one value that is given is no number in the option's range
abbrev pub IsBadValue : Slot → List (List ℕ) → Type 0
IsBadValue slot given = (word : List ℕ) × (given ≡ word ∷ []) × IsNoNumber 1 (greatest_of slot) word

-- this word among the loads writes none
abbrev pub IsBadLoad : List (List ℕ) → ℕ → Type 0
IsBadLoad loads at = (word : List ℕ) × (slice_get loads at ≡ Some word) × ((load : LoadWords) → IsLoad load → word ≢ load_text load)

-- how the files of a run are written
abbrev pub arguments_of : RunJob → List (List ℕ)
arguments_of run = run.input ∷ run.output ∷ run.verdicts ∷ run.versions ∷ run.table ∷ load_texts run.loads

-- the run's files are those that the arguments name
pub record IsNamed (p : Parts) (run : RunJob) : Type 0 where
  pub arguments : p.arguments ≡ arguments_of run
  pub loads : All IsLoad run.loads

-- the file that is written, at this place among the names, has the name of another file too
abbrev pub IsShared : RunJob → ℕ → Type 0
IsShared run at = (1 ≤ at) × (at ≤ 3) × ((name : List ℕ) × (slice_get (names_of run) at ≡ Some name) × (StandsOnce (names_of run) name → ⊥))

-- the window of this load begins or ends earlier than that of the load in front of it
abbrev pub HasFallen : List LoadWords → ℕ → Type 0
HasFallen loads at =
    (1 ≤ at) × (at < length loads) × (IsNotBefore (slice_index_or (windows_of loads) at always) (slice_index_or (windows_of loads) (at - 1) always) → ⊥)

-- what a cause says of a command and of the parts behind it
abbrev pub IsFaultOf : List ℕ → Parts → Fault → Type 0
IsFaultOf command p fault.Nothing = ⊥
IsFaultOf command p fault.Command = IsNoCommand command
IsFaultOf command p (fault.Stray place) = ⊥
IsFaultOf command p (fault.NoValue slot) = ⊥
IsFaultOf command p fault.OptionOfRun = (command ≢ codes "run") × (HasNoOptions p → ⊥)
IsFaultOf command p (fault.Twice slot) = (command ≡ codes "run") × (2 ≤ length (values_of slot p))
IsFaultOf command p (fault.Value slot) = (command ≡ codes "run") × IsBadValue slot (values_of slot p)
IsFaultOf command p fault.Count = TakesSoMany command (length p.arguments) → ⊥
IsFaultOf command p (fault.Empty at) = (at < names_in command) × (slice_get p.arguments at ≡ Some [])
IsFaultOf command p (fault.Number at least most) = IsRange command at least most × ForArgument p at (IsNoNumber least most)
IsFaultOf command p fault.Address = (command ≡ codes "who") × ForArgument p 1 (λ word. (a : ℕ) → IsV4Text word a → ⊥)
IsFaultOf command p (fault.Load at) = (command ≡ codes "run") × IsBadLoad (drop 5 p.arguments) at
IsFaultOf command p fault.SameTable = (command ≡ codes "migrate") × ((name : List ℕ) × (p.arguments ≡ name ∷ name ∷ []))
IsFaultOf command p (fault.Same at) = (command ≡ codes "run") × ((run : RunJob) × IsNamed p run × IsShared run at)
IsFaultOf command p (fault.Falls at) = (command ≡ codes "run") × ((run : RunJob) × IsNamed p run × HasFallen run.loads at)

-- the cause that is told, if one is, is true of them
abbrev pub HasCause : List ℕ → Parts → JobError → Type 0
HasCause command p e = (f : Fault) → e ≡ error.Refused f → IsFaultOf command p f

-- what a cause says of the words behind a command
abbrev pub IsFaultBehind : List ℕ → List (List ℕ) → Fault → Type 0
IsFaultBehind command rest (fault.Stray place) = IsStray rest place
IsFaultBehind command rest (fault.NoValue slot) = EndsInOption rest slot
IsFaultBehind command rest f = (p : Parts) × (parts_of None rest ≡ Some p) × IsFaultOf command p f

-- the cause is true of the words
abbrev pub IsFault : List (List ℕ) → Fault → Type 0
IsFault [] f = f ≡ fault.Nothing
IsFault (command ∷ rest) f = IsFaultBehind command rest f
