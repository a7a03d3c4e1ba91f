-- The calls of the files as steps of a log, and a log that grows by one entry.
use Rattle.std.proofs.Common.{Err, IsErrAnd, List, Ok, Result, [], ap, append-nil, arith, drop, false, flat_map, get_or, if◌then◌else◌, length, suc}
use Rattle.std.proofs.Common.{sym, take, take-append-drop, ℕ, ◌++◌, ◌+◌, ◌<◌, ◌∙◌, ◌∷◌, ◌≡◌}
use Rattle.std.proofs.Math.Seq.{take-suc}
use Rattle.std.proofs.lemmas.Grind.{flat_map-append}
use Rattle.aftr_io.specs.Contents.{Contents, Created, Writes, content}
use Rattle.aftr_io.specs.Outside.{Rises, Written, has_failed}
use Rattle.aftr_io.specs.Pieces.{AppendedAll}
use Rattle.aftr_io.specs.declared.outside.Fault.{Fault}
use Rattle.output_journal.specs.Log.{AreDistinct, Did, Logged, Logs, OthersKept, OutputNames, Step, adds, is_same, make, name_of}
use Rattle.output_journal.specs.declared.names.Output.{Output}
use Rattle.output_journal.specs.declared.names.Output.TheVariants as output
use Rattle.output_journal.proofs.LogLemmas.{did_none, holds_adds, logged_join, logs_join, logs_stop, take_adds}
use Rattle.output_journal.proofs.MoveLemmas.{count_out, moves_by, moves_same}

module _ (names : OutputNames) (far : AreDistinct names) where
  each : (m n : Contents) (file : Output) (f : List ℕ → List ℕ) → Writes m n (name_of names file) (f (content m (name_of names file))) → (other : Output) →
      content n (name_of names other) ≡ (if is_same file other then f (content m (name_of names other)) else content m (name_of names other))
  each m n output.Packets f w output.Packets = w.here
  each m n output.Packets f w output.Verdicts = w.others names.verdicts (λ e. far.packets_verdicts (sym e))
  each m n output.Packets f w output.Versions = w.others names.versions (λ e. far.packets_versions (sym e))
  each m n output.Verdicts f w output.Packets = w.others names.packets far.packets_verdicts
  each m n output.Verdicts f w output.Verdicts = w.here
  each m n output.Verdicts f w output.Versions = w.others names.versions (λ e. far.verdicts_versions (sym e))
  each m n output.Versions f w output.Packets = w.others names.packets far.packets_versions
  each m n output.Versions f w output.Verdicts = w.others names.verdicts far.verdicts_versions
  each m n output.Versions f w output.Versions = w.here

  kept : (m n : Contents) (file : Output) (bytes : List ℕ) → Writes m n (name_of names file) bytes → OthersKept names m n
  kept m n output.Packets bytes w = λ name u v z. w.others name u
  kept m n output.Verdicts bytes w = λ name u v z. w.others name v
  kept m n output.Versions bytes w = λ name u v z. w.others name z

  is_made : (file : Output) (m n : Contents) → Writes m n (name_of names file) [] → Did names (make file ∷ []) m n
  is_made file m n w = record { files = each m n file (λ held. []) w; others = kept m n file [] w }

  is_added : (file : Output) (due : List ℕ) (m n : Contents) → Writes m n (name_of names file) (content m (name_of names file) ++ due) →
      Did names (adds file due) m n
  is_added file due m n w = record {
    files = λ other. each m n file (λ held. held ++ due) w other ∙ sym (holds_adds file other due (content m (name_of names other)));
    others = kept m n file (content m (name_of names file) ++ due) w;
  }

  pub made : (r : Result Unit Fault) (file : Output) (old new : Written) → Created r old.held new.held (name_of names file) →
      Rises (has_failed r) old.spoiled new.spoiled → Logs names r (make file ∷ []) old new
  made (Ok done) file old new step rises = record { held = moves_by old.held new.held _ _ (is_made file) step; spoiled = rises }
  made (Err why) file old new same rises = (0, record { held = moves_same old.held new.held _ (λ m. did_none names m) same; spoiled = rises })

  pub added : (r : Result Unit Fault) (file : Output) (due : List ℕ) (old new : Written) → AppendedAll r old.held new.held (name_of names file) due →
      Rises (has_failed r) old.spoiled new.spoiled → Logs names r (adds file due) old new
  added (Ok done) file due old new step rises = record { held = moves_by old.held new.held _ _ (is_added file due) step; spoiled = rises }
  added (Err why) file due old new step rises =
      let it = count_out old.held new.held (λ count. Did names (take count (adds file due)))
      (moves_by old.held new.held _ _ (λ m n w. (w.0, rw (take_adds w.0 file due) (is_added file (take w.0 due) m n w.2))) step) in
      (it.0, record { held = it.1; spoiled = rises })

pub is_err : {why : Fault} (r : Result Unit Fault) → IsErrAnd r (λ e. e ≡ why) → r ≡ Err why
is_err (Ok x) is = absurd is
is_err (Err e) is = ap Err is

-- Entries, or parts, of which each has its steps: those up to a place are written, and one more is, or a front of it.
module _ (names : OutputNames) {A : Type 0} (f : A → List Step) (es : List A) (i : ℕ) (d e : A) (is : get_or es i d ≡ e) (inside : i < length es)
    (x y z : Written) (before : Logged names false (flat_map f (take i es)) x y) where
  front : flat_map f (take (i + 1) es) ≡ flat_map f (take i es) ++ f e
  front =
      let next : i + 1 ≡ suc i = omega arith in
      ap (λ (n : ℕ). flat_map f (take n es)) next
      ∙ (ap (λ (l : List A). flat_map f l) (take-suc es i d inside ∙ ap (λ (one : A). take i es ++ (one ∷ [])) is)
      ∙ (flat_map-append f (take i es) (e ∷ []) ∙ ap (λ (l : List Step). flat_map f (take i es) ++ l) (append-nil (f e))))

  whole : flat_map f es ≡ flat_map f (take (i + 1) es) ++ flat_map f (drop (i + 1) es)
  whole = ap (λ (l : List A). flat_map f l) (sym (take-append-drop (i + 1) es)) ∙ flat_map-append f (take (i + 1) es) (drop (i + 1) es)

  pub goes_on : Logged names false (f e) y z → Logged names false (flat_map f (take (i + 1) es)) x z
  goes_on next = rw front (logged_join names false (flat_map f (take i es)) (f e) x y z before next)

  pub stops : (why : Fault) (r : Result Unit Fault) → IsErrAnd r (λ e. e ≡ why) → Logs names (Err why) (f e) y z → Logs names r (flat_map f es) x z
  stops why r failed next =
      let up_to : Logs names (Err why) (flat_map f (take (i + 1) es)) x z =
      rw front (logs_join names (Err why) (flat_map f (take i es)) (f e) x y z before next) in
      rw (is_err r failed, whole) (logs_stop names why (flat_map f (take (i + 1) es)) (flat_map f (drop (i + 1) es)) x z up_to)
