-- Steps of writing: what the files hold by them.
use Rattle.lwaftr_engine.proofs.Words.{◌≡◌, ℕ, zero, suc, ◌+◌, ◌≤◌, nat_lt, Bool, true, false, List, [], ◌∷◌, ◌++◌, length, take, Option, refl}
use Rattle.lwaftr_engine.proofs.Words.{sym, ◌∙◌, ap, take-length, Contents, content, Moves, initial_text, RunJob, file_head, Written, HoldsFront, Wrote}
use Rattle.lwaftr_engine.proofs.Words.{OthersKept, Did, DidFront, Step, adds, opening_log, opening_steps, round_log, BreaksLast, DidBoth, Fault, IfErr, IfOk}
use Rattle.lwaftr_engine.proofs.Words.{Logged, Logs, Result, WrittenFiles, inl, inr, Err, Ok, arith, cases_lt, take_all, ◌-◌, holds_round, holds_two, outputs_of}
use Rattle.lwaftr_engine.proofs.Words.{IsErrAnd, OutputNames, did_none, take_adds, take_both, take_round}
use Rattle.lwaftr_engine.proofs.Moving.{moves_by, moves_join, moves_none}
use Rattle.lwaftr_engine.proofs.Going.{wrote_same}
use Rattle.aftr_io.specs.declared.outside.Fault.TheVariants as fault
use Rattle.lwaftr_engine.proofs.Exits.{handed}
use Rattle.output_journal.specs.Log as log
use Rattle.output_journal.specs.declared.names.Output.TheVariants as output

-- what was done whole was done to a front
pub front_of_all : (run : RunJob) (steps : List Step) (m n : Contents) → Did run steps m n → DidFront run steps m n
front_of_all run steps m n did = (length steps, rw (take-length steps) did)

-- what a log says of the files, where it is told
module _ (run : RunJob) where
  -- it is written to its end, and so to a front
  pub fronts_of : (u : List Step) (a b : WrittenFiles) → Logged (outputs_of run) false u a b → Moves a.held b.held (DidFront run u)
  fronts_of u a b logged = moves_by a.held b.held (Did run u) (DidFront run u) (λ m n did. front_of_all run u m n did) logged.held

  pub front_of_err : (u : List Step) (why : Fault) (a b : WrittenFiles) → Logs (outputs_of run) (Err why) u a b → Moves a.held b.held (DidFront run u)
  front_of_err u why a b (count, front) = moves_by a.held b.held (Did run (take count u)) (DidFront run u) (λ m n did. (count, did)) front.held

  -- both are written
  pub both_of : (u v : List Step) (r : Result Unit Fault) (a b d : WrittenFiles) → Moves a.held b.held (Did run u) → Logs (outputs_of run) r v b d →
      IfOk r (λ _. Moves a.held d.held (DidBoth run u v))
  both_of u v (Ok done) a b d one two = moves_join a.held b.held d.held _ _ _ (λ k m n w z. (m, w, z)) one two.held
  both_of u v (Err why) a b d one two = tt

  -- the last round could not be judged, or is put in part
  pub cut_left : (u v : List Step) (Well : Type 0) (h0 h1 : Option Contents) → Moves h0 h1 (Did run u) → Moves h0 h1 (BreaksLast run u Well v)
  cut_left u v Well h0 h1 did = moves_by h0 h1 (Did run u) _ (λ m n done. inl (front_of_all run u m n done)) did

  pub cut_first : (u v : List Step) (Well : Type 0) (why : Fault) (a b : WrittenFiles) → Logs (outputs_of run) (Err why) u a b →
      Moves a.held b.held (BreaksLast run u Well v)
  cut_first u v Well why a b logs = moves_by a.held b.held (DidFront run u) _ (λ m n front. inl front) (front_of_err u why a b logs)

  pub cut_of : (u v : List Step) (Well : Type 0) (r : Result Unit Fault) (a b d : WrittenFiles) → Well → Moves a.held b.held (Did run u) →
      Logs (outputs_of run) r v b d → IfErr r (λ _. Moves a.held d.held (BreaksLast run u Well v))
  cut_of u v Well (Ok done) a b d well one two = tt
  cut_of u v Well (Err why) a b d well one two =
      moves_join a.held b.held d.held (Did run u) (DidFront run v) (BreaksLast run u Well v) (λ k m n w z. inr (well, (m, w, z))) one
      (front_of_err v why b d two)

-- memory was short before anything was written
pub none_logged : (names : OutputNames) (r : Result Unit Fault) (steps : List Step) (a : WrittenFiles) → IsErrAnd r (λ e. e ≡ fault.OutOfMemory) →
    Logs names r steps a a
none_logged names r steps a is =
    rw (handed r is) (0, record { held = moves_none a.held a.held (log.Did names []) (λ m. did_none names m) refl; spoiled = refl })

-- the outputs are made, with this header and this line
pub record IsOpenedWith (run : RunJob) (head line : List ℕ) (old new : Contents) : Type 0 where
  pub output : content new run.output ≡ head
  pub verdicts : content new run.verdicts ≡ []
  pub versions : content new run.versions ≡ line
  pub others : OthersKept run old new

abbrev pub IsOpened : RunJob → Written → Contents → Contents → Type 0
IsOpened run w old new = IsOpenedWith run (file_head w) (initial_text run.table) old new

opened_with : (run : RunJob) (head line : List ℕ) (m n : Contents) → Did run (opening_log head line) m n →
    IsOpenedWith run head line m n
opened_with run head line m n did = record {
  output = did.files output.Packets ∙ holds_two output.Packets output.Versions output.Packets head line [];
  verdicts = did.files output.Verdicts ∙ holds_two output.Packets output.Versions output.Verdicts head line [];
  versions = did.files output.Versions ∙ holds_two output.Packets output.Versions output.Versions head line [];
  others = did.others;
}

pub opened : (run : RunJob) (w : Written) (m n : Contents) → Did run (opening_steps run w) m n → IsOpened run w m n
opened run w m n did = opened_with run (file_head w) (initial_text run.table) m n did

-- So many outputs are made, in this order, and each holds a front of what it begins with.
pub record IsOpening (run : RunJob) (w : Written) (old new : Contents) : Type 0 where
  pub made : ℕ
  pub output : HoldsFront (nat_lt 0 made) (file_head w) (content old run.output) (content new run.output)
  pub verdicts : HoldsFront (nat_lt 1 made) [] (content old run.verdicts) (content new run.verdicts)
  pub versions : HoldsFront (nat_lt 2 made) (initial_text run.table) (content old run.versions) (content new run.versions)
  pub others : OthersKept run old new

pub opening_front : (run : RunJob) (w : Written) (m n : Contents) → DidFront run (opening_steps run w) m n → IsOpening run w m n
opening_front run w m n (zero, did) = record {
  made = 0;
  output = did.files output.Packets;
  verdicts = did.files output.Verdicts;
  versions = did.files output.Versions;
  others = did.others;
}
opening_front run w m n (suc zero, did) = record {
  made = 1;
  output = (0, did.files output.Packets);
  verdicts = did.files output.Verdicts;
  versions = did.files output.Versions;
  others = did.others;
}
opening_front run w m n (suc (suc zero), did) = record {
  made = 2;
  output = (0, did.files output.Packets);
  verdicts = (0, did.files output.Verdicts);
  versions = did.files output.Versions;
  others = did.others;
}
opening_front run w m n (suc (suc (suc count)), did) =
    let head = file_head w in
    let line = initial_text run.table in
    let left = count - length head in
    let shown = take_both count output.Packets head (adds output.Versions line)
    ∙ ap (λ (l : List Step). adds output.Packets (take count head) ++ l) (take_adds left output.Versions line) in
    let it = opened_with run (take count head) (take left line) m n (rw (← shown) did) in
    record { made = 3; output = (count, it.output); verdicts = (0, it.verdicts); versions = (left, it.versions); others = it.others }

-- a round is written
pub wrote : (run : RunJob) (versions packets lines : List ℕ) (m n : Contents) → Did run (round_log versions packets lines) m n →
    Wrote run versions packets lines m n
wrote run versions packets lines m n did = record {
  versions_is = did.files output.Versions ∙ holds_round output.Versions versions packets lines (content m run.versions);
  output = did.files output.Packets ∙ holds_round output.Packets versions packets lines (content m run.output);
  verdicts = did.files output.Verdicts ∙ holds_round output.Verdicts versions packets lines (content m run.verdicts);
  others = did.others;
}

-- a round is written to a front: of its lines of tables, or all of them and fronts of the others
pub data WroteFront (run : RunJob) (versions packets lines : List ℕ) (old new : Contents) : Type 0 where
  in_tables : (count : ℕ) → Wrote run (take count versions) [] [] old new → WroteFront run versions packets lines old new
  in_others : (p l : ℕ) → Wrote run versions (take p packets) (take l lines) old new → WroteFront run versions packets lines old new

pub wrote_front : (run : RunJob) (versions packets lines : List ℕ) (m n : Contents) → DidFront run (round_log versions packets lines) m n →
    WroteFront run versions packets lines m n
wrote_front run versions packets lines m n (count, did) =
    let k = count - length versions in
    let l = k - length packets in
    let w = wrote run (take count versions) (take k packets) (take l lines) m n (rw (← (take_round count versions packets lines)) did) in
    elim (cases_lt count (length versions)) [
      | inl less ↦
          let none : count - length versions ≡ 0 = omega arith in
          let nor : count - length versions - length packets ≡ 0 = omega arith in
          in_tables count (wrote_same (refl, ap (λ (x : ℕ). take x packets) none, ap (λ (x : ℕ). take x lines) nor) w)
      | inr more ↦ in_others k l (wrote_same (take_all count versions more, refl, refl) w)
    ]
