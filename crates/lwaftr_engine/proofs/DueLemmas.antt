-- The status that is due, and the one that comes.
use Rattle.lwaftr_engine.proofs.Words.{◌≡◌, ℕ, Bool, true, false, List, [], ◌∷◌, drop, Option, Some, None, Result, Ok, Err, ◌⊎◌, inl, inr, refl, sym, ◌∙◌, ap}
use Rattle.lwaftr_engine.proofs.Words.{Contents, content, Moves, Told, LoadWords, RunJob, HistoryValue, TableOf, FileRefused, BindingTable, CaptureBad, Rec}
use Rattle.lwaftr_engine.proofs.Words.{IsFault, IsWholeRun, Header, IsInput, IsInputBy, header_by, header_of, in_blocks, in_classic, AsksDone, IsAskedFor}
use Rattle.lwaftr_engine.proofs.Words.{Leaves, Answer, AreAnswers, Status, Seen, World}
use Rattle.lwaftr_engine.proofs.Laws.{OneAnswer, OneReading}
use Rattle.lwaftr_engine.proofs.Moving.{told_by}
use Rattle.lwaftr_engine.specs.declared.status.Status.TheVariants as status
use Rattle.pcapng_io.specs.Captures as blocks
use Rattle.pcapng_io.specs.Rounds as rounds

-- what is left of a pcapng file is one list with one ending
abbrev pub OneLeft : Type 0
OneLeft = (seen : Seen) (bytes : List ℕ) (number : ℕ) (rs others : List Rec) (ending other : Option CaptureBad) →
    rounds.left_of seen bytes number rs ending → rounds.left_of seen bytes number others other → (rs ≡ others) × (ending ≡ other)

-- a table file has one answer, and a capture one reading
pub record AreSingle : Type 0 where
  pub table : OneAnswer
  pub capture : OneReading
  pub blocks_left : OneLeft

same_seen : (x : Result Seen CaptureBad) (f g : Seen) → x ≡ Ok f → x ≡ Ok g → f ≡ g
same_seen x f g a b = cc (a, b)

end_by : AreSingle → (kind : Bool) (bytes : List ℕ) (h g : Header) (rs ss : List Rec) (e f : Option CaptureBad) → IsInputBy kind bytes h rs e →
    IsInputBy kind bytes g ss f → e ≡ f
end_by one true bytes h g rs ss e f p q =
    let same = same_seen (blocks.header_in bytes) q.0 p.0 q.2.0 p.2.0 in
    (one.blocks_left p.0 bytes 0 rs ss e f p.2.1 (rw (← same) q.2.1)).1
end_by one false bytes h g rs ss e f p q =
    let same : q.0 ≡ p.0 = cc (p.2.0, q.2.0) in
    (one.capture p.0.big (drop 24 bytes) 24 0 rs ss e f p.2.1 (rw (← same) q.2.1)).1

one_end : AreSingle → (bytes : List ℕ) (h g : Header) (rs ss : List Rec) (e f : Option CaptureBad) → IsInput bytes h rs e → IsInput bytes g ss f → e ≡ f
one_end one bytes h g rs ss e f p q = end_by one (blocks.is_pcapng bytes) bytes h g rs ss e f p q

header_is_by : (kind : Bool) (bytes : List ℕ) (h : Header) (rs : List Rec) (e : Option CaptureBad) → IsInputBy kind bytes h rs e → header_by kind bytes ≡ Ok h
header_is_by true bytes h rs e p = ap in_blocks p.2.0 ∙ ap (λ (x : Header). let r : Result Header CaptureBad = Ok x in r) (sym p.1)
header_is_by false bytes h rs e p = ap in_classic p.2.0 ∙ ap (λ (x : Header). let r : Result Header CaptureBad = Ok x in r) (sym p.1)

pub header_is : (bytes : List ℕ) (h : Header) (rs : List Rec) (e : Option CaptureBad) → IsInput bytes h rs e → header_of bytes ≡ Ok h
header_is bytes h rs e p = header_is_by (blocks.is_pcapng bytes) bytes h rs e p

not_both : (x : Result Header CaptureBad) (h : Header) (refusal : CaptureBad) → x ≡ Ok h → x ≡ Err refusal → ⊥
not_both x h refusal a b = absurd (cc (a, b))

same_answers : OneAnswer → (m : Contents) (loads : List LoadWords) (a b : List Answer) → AreAnswers m loads a → AreAnswers m loads b → a ≡ b
same_answers one m [] [] [] p q = refl
same_answers one m [] [] (y ∷ ys) p q = absurd q
same_answers one m [] (x ∷ xs) b p q = absurd p
same_answers one m (load ∷ loads) [] b p q = absurd p
same_answers one m (load ∷ loads) (x ∷ xs) [] p q = absurd q
same_answers one m (load ∷ loads) (x ∷ xs) (y ∷ ys) p q =
    λ i. one (content m load.name) x y p.0 q.0 i ∷ same_answers one m loads xs ys p.1 q.1 i

-- the status by how the capture ends, and whether a load is refused
abbrev pub by_end : Option CaptureBad → Bool → Status
by_end (Some refusal) refused = status.BadCapture refusal
by_end None true = status.DoneRefused
by_end None false = status.Done

module _ (one : AreSingle) (run : RunJob) (m : Contents) where
  no_table : (t : BindingTable) (refusal : FileRefused) → TableOf (content m run.table) (Ok t) → TableOf (content m run.table) (Err refusal) → ⊥
  no_table t refusal good bad = let e : Ok t ≡ Err refusal = one.table (content m run.table) (Ok t) (Err refusal) good bad in absurd (cc e)

  no_header : (h : Header) (rs : List Rec) (e : Option CaptureBad) (refusal : CaptureBad) → IsInput (content m run.input) h rs e →
      header_of (content m run.input) ≡ Err refusal → ⊥
  no_header h rs e refusal input bad = not_both (header_of (content m run.input)) h refusal (header_is (content m run.input) h rs e input) bad

  -- a whole run, where one that is done is asked for, and where any status is
  due_done : {old new : Contents} {said now : Option (List ℕ)} {history : Option HistoryValue} {e : Option CaptureBad} {refused : Bool}
      (w : IsWholeRun run m old new said now history e refused) (some : Bool) →
      AsksDone run m some → by_end e refused ≡ by_end None some
  due_done {e} {refused} w some asked =
      let ending = one_end one (content m run.input) w.whole.header asked.header w.whole.records asked.records e None w.whole.capture asked.capture in
      let answers = same_answers one.table m run.loads w.answers asked.answers w.tables.loads asked.tables.loads in
      cc (ending, answers, w.some_load_refused, asked.some_is)

  due_whole : {old new : Contents} {said now : Option (List ℕ)} {history : Option HistoryValue} {e : Option CaptureBad} {refused : Bool}
      (w : IsWholeRun run m old new said now history e refused) (s : Status) →
      IsAskedFor run m s → by_end e refused ≡ s
  due_whole w (status.BadTable refusal) due = absurd (no_table w.first refusal w.tables.table due)
  due_whole {e} w (status.BadCapture refusal) (_, inl header) = absurd (no_header w.whole.header w.whole.records e refusal w.whole.capture header)
  due_whole {e} {refused} w (status.BadCapture refusal) (_, inr bad) =
      ap (λ (x : Option CaptureBad). by_end x refused)
      (one_end one (content m run.input) w.whole.header bad.0 w.whole.records bad.1 e (Some refusal) w.whole.capture bad.2)
  due_whole w status.Done due = due_done w false due
  due_whole w status.DoneRefused due = due_done w true due
  due_whole w _ due = absurd due

  due_header : (t : BindingTable) (refusal : CaptureBad) → TableOf (content m run.table) (Ok t) → header_of (content m run.input) ≡ Err refusal → (s : Status) →
      IsAskedFor run m s → status.BadCapture refusal ≡ s
  due_header t refusal table header (status.BadTable other) due = absurd (no_table t other table due)
  due_header t refusal table header (status.BadCapture other) (_, inl same) = let e : Err refusal ≡ Err other = sym header ∙ same in cc e
  due_header t refusal table header (status.BadCapture other) (_, inr bad) = absurd (no_header bad.0 bad.1 (Some other) refusal bad.2 header)
  due_header t refusal table header status.Done due = absurd (no_header due.header due.records None refusal due.capture header)
  due_header t refusal table header status.DoneRefused due = absurd (no_header due.header due.records None refusal due.capture header)
  due_header t refusal table header _ due = absurd due

  due_refused : (refusal : FileRefused) → TableOf (content m run.table) (Err refusal) → (s : Status) → IsAskedFor run m s → status.BadTable refusal ≡ s
  due_refused refusal bad (status.BadTable other) due =
      let e : Err refusal ≡ Err other = one.table (content m run.table) (Err refusal) (Err other) bad due in cc e
  due_refused refusal bad (status.BadCapture other) due = absurd (no_table due.0.0 refusal due.0.1 bad)
  due_refused refusal bad status.Done due = absurd (no_table due.first refusal due.tables.table bad)
  due_refused refusal bad status.DoneRefused due = absurd (no_table due.first refusal due.tables.table bad)
  due_refused refusal bad _ due = absurd due

  pub is_due : (result : Status) (before now : World) (history : Option HistoryValue) (old new : Contents) → Leaves run result before now history m old new →
      (s : Status) → IsAskedFor run m s → (result ≡ s) ⊎ IsFault result
  is_due status.Done before now history old new f s due = inl (due_whole f s due)
  is_due status.DoneRefused before now history old new f s due = inl (due_whole f s due)
  is_due (status.BadCapture refusal) before now history old new (inl w) s due = inl (due_whole w.1 s due)
  is_due (status.BadCapture refusal) before now history old new (inr b) s due = inl (due_header b.first refusal b.table b.header s due)
  is_due (status.BadTable refusal) before now history old new f s due = inl (due_refused refusal f.0 s due)
  is_due status.Usage before now history old new f s due = absurd f
  is_due _ before now history old new f s due = inr tt

pub due_told : AreSingle → (run : RunJob) (result : Status) (before now : World) (history : Option HistoryValue) →
    Told before.reading.held (λ i. Moves before.writing.held now.writing.held (Leaves run result before now history i)) →
    Told before.reading.held (λ i. Told before.writing.held (λ old. (s : Status) → IsAskedFor run i s → (result ≡ s) ⊎ IsFault result))
due_told one run result before now history told =
    told_by before.reading.held _ _ (λ i moves. by_held i before.writing.held now.writing.held moves) told where
      by_held : (i : Contents) (a b : Option Contents) → Moves a b (Leaves run result before now history i) →
          Told a (λ old. (s : Status) → IsAskedFor run i s → (result ≡ s) ⊎ IsFault result)
      by_held i None b moves = tt
      by_held i (Some m) None moves = absurd moves
      by_held i (Some m) (Some o) moves = is_due one run i result before now history m o moves
