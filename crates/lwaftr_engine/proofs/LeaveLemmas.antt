-- What a run leaves by its table files, and the status that is due.
use Rattle.lwaftr_engine.proofs.Words.{◌≡◌, ℕ, suc, List, [], ◌∷◌, ◌++◌, Option, Some, None, Ok, inl, inr, refl, sym, ◌∙◌, ap, arith, Contains, map}
use Rattle.lwaftr_engine.proofs.Words.{Contains-append_right, Contents, content, LoadWords, RunJob, HistoryValue, TableOf, BindingTable, FailsIn, IsReadOf}
use Rattle.lwaftr_engine.proofs.Words.{AreSlotsOf, AreTables, IsBehindTable, IsUnread, table_names, AreFitFor, AreLoadsOf, IsMade, LeavesBy, LeavesMade}
use Rattle.lwaftr_engine.proofs.Words.{some_slot_refused, Leaves, IsPlanOf, Answer, slots_in, some_refused, table_by, windows_in, Status, Load, Made, Slot}
use Rattle.lwaftr_engine.proofs.Words.{Window, Bool, CaptureBad, IsBrokenRun, IsStopped, IsWhole, IsWholeRun, Stop, World, AreAnswers}
use Rattle.lwaftr_engine.proofs.JobLemmas.{same_last}
use Rattle.lwaftr_engine.proofs.PlanLemmas.{answers_of, plan_is, refused_are, slots_are, slots_of_run, AreLoadedAs}
use Rattle.lwaftr_engine.proofs.ReadLemmas.{read_among}
use Rattle.lwaftr_engine.specs.declared.status.Status.TheVariants as status

-- a read of a table file that failed
pub unread_tables : (run : RunJob) (inputs m : Contents) (said now : Option (List ℕ)) (last : Option (List ℕ × ℕ)) → now ≡ said → IsReadOf (table_names run) last →
    IsBehindTable run inputs last → IsUnread run inputs m m said now None last
unread_tables run inputs m said now last same failed accepted =
    let among : (place : ℕ) → last ≡ Some (run.input, place) → Contains (table_names run) run.input = λ place last_is.
    rw (← (ap (λ (read : List ℕ × ℕ). read.0) (same_last failed.last_is last_is))) failed.among in
    record {
      kept = record { files = refl; sink = same; none = refl };
      early = λ in_records. in_records.apart (among in_records.place in_records.last_is);
      behind_table = accepted;
    }

-- the tables of the run, as they were read
pub record AreRead (run : RunJob) (t : BindingTable) (ls : List Load) (m : Contents) : Type 0 where
  pub table : TableOf (content m run.table) (Ok t)
  pub loads : AreLoadsOf m run.loads ls

-- a run that is made of tables that were read
pub record ReadRun : Type 0 where
  pub run : RunJob
  pub t : BindingTable
  pub ls : List Load
  pub made : Made
  pub of : IsMade t ls made
  pub fit : AreFitFor run.loads ls
  pub inputs : Contents
  pub read : AreRead run t ls inputs

module _ (r : ReadRun) where
  abbrev found : (answers : List Answer) × AreAnswers r.inputs r.run.loads answers × AreLoadedAs answers r.ls
  found = answers_of r.inputs r.run.loads r.ls r.read.loads

  abbrev answers : List Answer
  answers = found.0

  abbrev its_tables : ℕ → BindingTable
  its_tables = table_by r.t answers

  abbrev its_windows : List Window
  its_windows = windows_in r.run.loads answers

  abbrev its_slots : List Slot
  its_slots = slots_in 0 answers

  tables : AreTables r.run r.inputs r.t answers
  tables = record { table = r.read.table; loads = found.1 }

  slots : r.made.slots ≡ its_slots
  slots = r.of.slots ∙ slots_are answers r.ls found.2 0

  plan : IsPlanOf its_tables its_windows r.made.plan
  plan = plan_is r.t r.of.words answers r.run.loads r.ls r.made.plan r.of.compiled r.of.plan r.fit found.2

  slots_of : AreSlotsOf r.run its_windows its_slots
  slots_of = slots_of_run r.run r.inputs answers found.1

  whole_run : {refused : Bool} {old new : Contents} {said now : Option (List ℕ)} {history : Option HistoryValue} {ending : Option CaptureBad} →
      IsWhole r.run its_tables its_windows its_slots r.inputs old new said now history ending → some_refused answers ≡ refused →
      IsWholeRun r.run r.inputs old new said now history ending refused
  whole_run whole same = record { first = r.t; answers = answers; tables = tables; some_load_refused = same; whole = whole }

  broken_run : {old new : Contents} {stop : Stop} {history : Option HistoryValue} → IsStopped r.run its_tables its_windows its_slots stop history r.inputs old new →
      IsBrokenRun r.run r.inputs old new stop history
  broken_run left = record { first = r.t; answers = answers; tables = tables; broken = left.0 slots_of; none = left.1 }

  by_status : (result : Status) (before now : World) (history : Option HistoryValue) (old new : Contents) →
      LeavesBy r.run its_tables its_windows its_slots result before now history r.inputs old new →
      some_slot_refused its_slots ≡ some_refused answers → Leaves r.run result before now history r.inputs old new
  by_status status.Done before now history old new left same = whole_run left.0 (sym same ∙ left.1)
  by_status status.DoneRefused before now history old new left same = whole_run left.0 (sym same ∙ left.1)
  by_status (status.BadCapture refusal) before now history old new (inl whole) same = inl (some_refused answers, whole_run whole refl)
  by_status (status.BadCapture refusal) before now history old new (inr bad) same = inr (record { first = r.t; table = r.read.table; header = bad.0; kept = bad.1 })
  by_status status.ReadFault before now history old new (inl cut) same = inl (record { first = r.t; answers = answers; tables = tables; cut = cut })
  by_status status.ReadFault before now history old new (inr early) same = inr (record {
    kept = early.1;
    early = λ k. early.0 k.header k.place k.sound k.last_is k.has_end k.behind;
    behind_table = λ name place last_is apart. (r.t, r.read.table);
  })
  by_status status.WriteFault before now history old new left same = broken_run left
  by_status status.OutOfMemory before now history old new (inl kept) same = inl kept
  by_status status.OutOfMemory before now history old new (inr left) same = inr (broken_run left)
  by_status _ before now history old new left same = absurd left

  pub leaves : (result : Status) (before now : World) (history : Option HistoryValue) (old new : Contents) →
      LeavesMade r.run r.made.plan r.made.slots result before now history r.inputs old new →
      Leaves r.run result before now history r.inputs old new
  leaves result before now history old new left = by_status result before now history old new (rw (← slots) (left its_tables its_windows plan)) (refused_are answers 0)

-- reads of the capture are among those of all files
pub among_all : (run : RunJob) (result : Status) (old new : Option (List ℕ × ℕ)) → FailsIn (run.input ∷ []) result old new →
    FailsIn (table_names run ++ run.input ∷ []) result old new
among_all run status.ReadFault old new failed = read_among (Contains-append_right (table_names run) (run.input ∷ [])) failed
among_all run status.WriteFault old new failed = tt
among_all run status.OutOfMemory old new failed = tt
among_all run _ old new failed = failed

behind_first : (first : List ℕ) (names : List (List ℕ)) (name : List ℕ) → Contains names name → Contains (first ∷ names) name
behind_first first names name among = (suc among.0, omega (arith, among.1), among.2)

-- the file of a load is one of the table files
pub load_read : (run : RunJob) (last : Option (List ℕ × ℕ)) → IsReadOf (map (λ (load : LoadWords). load.name) run.loads) last → IsReadOf (table_names run) last
load_read run last failed = read_among (behind_first run.table (map (λ (load : LoadWords). load.name) run.loads)) failed
