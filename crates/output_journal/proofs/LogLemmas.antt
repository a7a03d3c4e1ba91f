-- Laws of logs: what each file holds behind a log or behind a front of it, and how logs join.
use Rattle.std.proofs.Common.{Bool, Err, IfErr, List, Ok, OnOk, Result, [], ap, append-nil, append_assoc, arith, drop, false, if◌then◌else◌, length, refl}
use Rattle.std.proofs.Common.{subst, suc, sym, take, take-append-drop, true, zero, ℕ, ◌++◌, ◌+◌, ◌-◌, ◌∙◌, ◌∷◌, ◌≡◌, inl, inr}
use Rattle.std.proofs.Math.Seq.{take-append-add, take-append_seam}
use Rattle.aftr_io.specs.Contents.{Contents, Moves, content}
use Rattle.aftr_io.specs.Outside.{Rises, Written, has_failed}
use Rattle.aftr_io.specs.declared.outside.Fault.{Fault}
use Rattle.output_journal.specs.Ends.{Ends, SinkState}
use Rattle.output_journal.specs.Log.{Did, DidFront, Logged, Logs, OthersKept, OutputNames, Step, add, adds, holds, is_same, make, name_of, round_log}
use Rattle.output_journal.specs.declared.names.Output.{Output}
use Rattle.output_journal.specs.declared.names.Output.TheVariants as output
use Rattle.output_journal.proofs.MoveLemmas.{moves_by, moves_join}

-- what a file holds when bytes are added to this one
abbrev pub behind : Output → Output → List ℕ → List ℕ → List ℕ
behind other file bytes held = if is_same other file then held ++ bytes else held

if_more : (t : Bool) (held : List ℕ) (byte : ℕ) (bytes : List ℕ) →
    (if t then (if t then held ++ (byte ∷ []) else held) ++ bytes else (if t then held ++ (byte ∷ []) else held)) ≡ (if t then held ++ (byte ∷ bytes) else held)
if_more true held byte bytes = append_assoc held (byte ∷ []) bytes
if_more false held byte bytes = refl

if_none : (t : Bool) (held : List ℕ) → held ≡ (if t then held ++ [] else held)
if_none true held = sym (append-nil held)
if_none false held = refl

pub holds_adds : (other file : Output) (bytes held : List ℕ) → holds file (adds other bytes) held ≡ behind other file bytes held
holds_adds other file [] held = if_none (is_same other file) held
holds_adds other file (byte ∷ bytes) held =
    holds_adds other file bytes (if is_same other file then held ++ (byte ∷ []) else held) ∙ if_more (is_same other file) held byte bytes

pub holds_more : (file : Output) (a b : List Step) (held : List ℕ) → holds file (a ++ b) held ≡ holds file b (holds file a held)
holds_more file [] b held = refl
holds_more file (make other ∷ a) b held = holds_more file a b (if is_same other file then [] else held)
holds_more file (add other byte ∷ a) b held = holds_more file a b (if is_same other file then held ++ (byte ∷ []) else held)

-- bytes are added to one, and then to another
pub holds_two : (a b file : Output) (first second held : List ℕ) → holds file (adds a first ++ adds b second) held ≡ behind b file second (behind a file first held)
holds_two a b file first second held =
    holds_more file (adds a first) (adds b second) held
    ∙ (ap (λ (l : List ℕ). holds file (adds b second) l) (holds_adds a file first held) ∙ holds_adds b file second (behind a file first held))

pub holds_round : (file : Output) (versions packets lines held : List ℕ) →
    holds file (round_log versions packets lines) held ≡ behind output.Verdicts file lines
    (behind output.Packets file packets (behind output.Versions file versions held))
holds_round file versions packets lines held =
    holds_more file (adds output.Versions versions) (adds output.Packets packets ++ adds output.Verdicts lines) held
    ∙ (ap (λ (l : List ℕ). holds file (adds output.Packets packets ++ adds output.Verdicts lines) l) (holds_adds output.Versions file versions held)
    ∙ holds_two output.Packets output.Verdicts file packets lines (behind output.Versions file versions held))

-- the first steps of bytes that are added, and of more behind them
pub take_adds : (count : ℕ) (file : Output) (bytes : List ℕ) → take count (adds file bytes) ≡ adds file (take count bytes)
take_adds zero file bytes = refl
take_adds (suc count) file [] = refl
take_adds (suc count) file (byte ∷ bytes) = ap (λ (l : List Step). add file byte ∷ l) (take_adds count file bytes)

pub take_both : (count : ℕ) (file : Output) (bytes : List ℕ) (rest : List Step) →
    take count (adds file bytes ++ rest) ≡ adds file (take count bytes) ++ take (count - length bytes) rest
take_both zero file bytes rest = let none : 0 ≡ 0 - length bytes = omega arith in ap (λ (n : ℕ). take n rest) none
take_both (suc count) file [] rest = let same : suc count ≡ suc count - 0 = omega arith in ap (λ (n : ℕ). take n rest) same
take_both (suc count) file (byte ∷ bytes) rest =
    let same : count - length bytes ≡ suc count - suc (length bytes) = omega arith in
    ap (λ (l : List Step). add file byte ∷ l) (take_both count file bytes rest ∙ ap (λ (n : ℕ). adds file (take count bytes) ++ take n rest) same)

pub take_round : (count : ℕ) (versions packets lines : List ℕ) →
    take count (round_log versions packets lines)
    ≡ round_log (take count versions) (take (count - length versions) packets) (take (count - length versions - length packets) lines)
take_round count versions packets lines =
    let k = count - length versions in
    take_both count output.Versions versions (adds output.Packets packets ++ adds output.Verdicts lines)
    ∙ ap (λ (s : List Step). adds output.Versions (take count versions) ++ s) (take_both k output.Packets packets (adds output.Verdicts lines)
    ∙ ap (λ (s : List Step). adds output.Packets (take k packets) ++ s) (take_adds (k - length packets) output.Verdicts lines))

-- what was done joins
pub did_none : (names : OutputNames) (m : Contents) → Did names [] m m
did_none names m = record { files = λ file. refl; others = λ name u v w. refl }

pub did_join : (names : OutputNames) (a b : List Step) (m n o : Contents) → Did names a m n → Did names b n o → Did names (a ++ b) m o
did_join names a b m n o first second = record {
  files = λ file. second.files file ∙ (ap (λ (l : List ℕ). holds file b l) (first.files file) ∙ sym (holds_more file a b (content m (name_of names file))));
  others = λ name u v w. second.others name u v w ∙ first.others name u v w;
}

module _ (names : OutputNames) where
  pub logged_join : (failed : Bool) (a b : List Step) (x y z : Written) → Logged names false a x y → Logged names failed b y z →
      Logged names failed (a ++ b) x z
  logged_join failed a b x y z first second = record {
    held = moves_join x.held y.held z.held _ _ _ (λ m n o u w. did_join names a b m n o u w) first.held second.held;
    spoiled = rw (← first.spoiled) second.spoiled;
  }

  -- a log behind one that was written whole
  pub logs_join : (r : Result Unit Fault) (a b : List Step) (x y z : Written) → Logged names false a x y → Logs names r b y z → Logs names r (a ++ b) x z
  logs_join (Ok done) a b x y z first second = logged_join false a b x y z first second
  logs_join (Err why) a b x y z first (count, second) =
      (length a + count, rw (take-append-add a b count) (logged_join _ a (take count b) x y z first second))

  -- what failed in a log failed in any longer one
  pub logs_stop : (why : Fault) (a b : List Step) (x y : Written) → Logs names (Err why) a x y → Logs names (Err why) (a ++ b) x y
  logs_stop why a b x y (count, front) =
      (length (take count a), subst (λ (l : List Step). Logged names (has_failed {T = Unit} (Err why)) l x y) (sym same) front) where
        same : take (length (take count a)) (a ++ b) ≡ take count a
        same =
            ap (λ (l : List Step). take (length (take count a)) l)
            (ap (λ (l : List Step). l ++ b) (sym (take-append-drop count a)) ∙ append_assoc (take count a) (drop count a) b)
            ∙ take-append_seam (take count a) (drop count a ++ b)

  -- what a log says of the files alone
  pub logs_done : (r : Result Unit Fault) (steps : List Step) (x y : Written) → Logs names r steps x y → OnOk r (Moves x.held y.held (Did names steps))
  logs_done (Ok done) steps x y logs = logs.held
  logs_done (Err why) steps x y logs = tt

  pub logs_front : (r : Result Unit Fault) (steps : List Step) (x y : Written) → Logs names r steps x y →
      IfErr r (λ _. Moves x.held y.held (DidFront names steps))
  logs_front (Ok done) steps x y logs = tt
  logs_front (Err why) steps x y (count, front) = moves_by x.held y.held _ _ (λ m n did. (count, did)) front.held

  pub logs_others : (r : Result Unit Fault) (steps : List Step) (x y : Written) → Logs names r steps x y →
      Moves x.held y.held (OthersKept names)
  logs_others (Ok done) steps x y logs = moves_by x.held y.held _ _ (λ m n did. did.others) logs.held
  logs_others (Err why) steps x y (count, front) = moves_by x.held y.held _ _ (λ m n did. did.others) front.held

  pub logs_spoiled : (r : Result Unit Fault) (steps : List Step) (x y : Written) → Logs names r steps x y → Rises (has_failed r) x.spoiled y.spoiled
  logs_spoiled (Ok done) steps x y logs = logs.spoiled
  logs_spoiled (Err why) steps x y (count, front) = front.spoiled

  pub ends_others : (r : Result Unit Fault) (steps : List Step) (line : List ℕ) (x y : Written) (said now : SinkState) → Ends names r steps line x y said now →
      Moves x.held y.held (OthersKept names)
  ends_others (Ok done) steps line x y said now (logged, puts) = logs_others (Ok done) steps x y logged
  ends_others (Err why) steps line x y said now (inl (logs, same)) = logs_others (Err why) steps x y logs
  ends_others (Err why) steps line x y said now (inr (logged, puts)) = moves_by x.held y.held _ _ (λ m n did. did.others) logged.held
