-- What a run leaves once its tables are read, or a read of them failed.
use Rattle.lwaftr_engine.proofs.Words.{◌≡◌, Contains-append_left, ℕ, List, [], ◌∷◌, Option, None, Ok, inr, refl, true, map, content, Moves, Readable, Told, WrittenFiles, halves}
use Rattle.lwaftr_engine.proofs.Words.{LoadWords, RunJob, HistoryValue, TableOf, BindingTable, FailsIn, HasCause, IsReadOf, table_names, AreFitFor, AreLoadsOf}
use Rattle.lwaftr_engine.proofs.Words.{OnlyReadsAmong, IsMade, LeavesMade, HasHistory, KeepsRest, KeepsRun, Leaves, world, Status, Load, Made, World}
use Rattle.lwaftr_engine.proofs.DueLemmas.{AreSingle, due_told}
use Rattle.lwaftr_engine.proofs.LeaveLemmas.{among_all, load_read, unread_tables, AreRead, ReadRun, leaves}
use Rattle.lwaftr_engine.proofs.ReadLemmas.{fails_behind, read_among}
use Rattle.lwaftr_engine.proofs.Adding.{others_same}
use Rattle.lwaftr_engine.proofs.Moving.{told_all, told_both, told_moves, told_still}
use Rattle.lwaftr_engine.specs.declared.status.Status.TheVariants as status

-- the tables were read, and the run is made of them
pub record MadeRun : Type 0 where
  pub one : AreSingle
  pub run : RunJob
  pub t : BindingTable
  pub ls : List Load
  pub made : Made
  pub of : IsMade t ls made
  pub fit : AreFitFor run.loads ls
  pub a : Readable
  pub w : WrittenFiles
  pub said : Option (List ℕ)
  pub puts : ℕ
  pub now : World
  pub table : Told a.held (λ m. TableOf (content m run.table) (Ok t))
  pub loads : Told a.held (λ m. AreLoadsOf m run.loads ls)

-- what the reading left is as it was
pub keeps_run : (r : MadeRun) (d : Readable) (result : Status) (history : Option HistoryValue) → d ≡ r.a →
    Told d.held (λ i. Moves r.w.held r.now.writing.held (LeavesMade r.run r.made.plan r.made.slots result (world d r.w r.said r.puts) r.now history i)) →
    KeepsRest r.run (halves d r.w) (halves r.now.reading r.now.writing) → HasCause result (world d r.w r.said r.puts) r.now →
    FailsIn (r.run.input ∷ []) result d.last r.now.reading.last →
    HasHistory r.run.input result r.now.reading.last r.said r.now.said history → KeepsRun r.run result (world r.a r.w r.said r.puts) r.now history
keeps_run r d result history all left rest cause failed has =
    let before = world r.a r.w r.said r.puts in
    let Left = LeavesMade r.run r.made.plan r.made.slots result before r.now history in
    let files : Told r.a.held (λ i. Moves r.w.held r.now.writing.held (Leaves r.run result before r.now history i)) =
    told_moves r.a.held r.w.held r.now.writing.held (AreRead r.run r.t r.ls) Left (Leaves r.run result before r.now history)
    (λ i m n read step.
    let tables : ReadRun = record { run = r.run; t = r.t; ls = r.ls; made = r.made; of = r.of; fit = r.fit; inputs = i; read = read } in
    leaves tables result before r.now history m n step)
    (told_both r.a.held _ _ (AreRead r.run r.t r.ls) (λ m table loads. record { table = table; loads = loads }) r.table r.loads) (rw (← all) left) in
    record {
      files = files;
      read_kept = rw (← all) rest.inputs;
      others = rest.others;
      due = due_told r.one r.run result before r.now history files;
      cause = rw (← all) cause;
      failed_read = among_all r.run result r.a.last r.now.reading.last (rw (← all) failed);
      capture_read = fails_behind r.run.input result r.a r.now.reading (rw (← all) rest.capture_read);
      has_history = has;
    }

-- a read of a load's file failed
pub keeps_unread : (run : RunJob) (t : BindingTable) (a d : Readable) (w : WrittenFiles) (said : Option (List ℕ)) (puts : ℕ) (history : Option HistoryValue) →
    history ≡ None →
    OnlyReadsAmong true (map (λ (load : LoadWords). load.name) run.loads) a d → Told a.held (λ m. TableOf (content m run.table) (Ok t)) →
    KeepsRun run status.ReadFault (world a w said puts) (world d w said puts) history
keeps_unread run t a d w said puts history none only table =
    let failed : IsReadOf (table_names run) d.last = load_read run d.last only.last in
    rw none (record {
      files = told_still a.held w.held w.held _ (Leaves run status.ReadFault (world a w said puts) (world d w said puts) None)
          (λ i m told. inr (unread_tables run i m said said d.last refl failed (λ name place last_is apart. (t, told)))) refl table;
      read_kept = only.held;
      others = others_same run w.held w.held refl;
      due = told_all a.held _ (λ i. told_all w.held _ (λ m s asked. inr tt));
      cause = record { lost = only.lost; spoiled = refl; puts = refl };
      failed_read = read_among (Contains-append_left (table_names run) (run.input ∷ [])) failed;
      capture_read = tt;
      has_history = refl;
    })
