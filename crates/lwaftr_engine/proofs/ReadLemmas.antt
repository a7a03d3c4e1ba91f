-- Which reads failed: none, or one of the capture.
use Rattle.lwaftr_engine.proofs.Words.{◌≡◌, ℕ, Bool, true, false, List, inl, inr, refl, FailsAt, Moves, OnlyReads, Readable, Rises, CaptureError, Halves, halves, WrittenFiles}
use Rattle.lwaftr_engine.proofs.Words.{Contains, FailsBehind, IsReadOf, MayFailIn, Option, KeepsRest, OthersKept, ReadsOf, RunJob, Status}
use Rattle.lwaftr_engine.proofs.Adding.{others_more, others_same}
use Rattle.lwaftr_engine.proofs.UnopenedLemmas.{failed_as}
use Rattle.lwaftr_engine.specs.declared.status.Status.TheVariants as status

failed_by : (failed : Bool) (name : List ℕ) (Inside : ℕ → Type 0) (a b : Readable) → Rises failed a.lost b.lost →
    FailsAt failed name Inside a.last b.last → MayFailIn name a b
failed_by true name Inside a b rose at = inr (rose, (at.0, at.2))
failed_by false name Inside a b same at = inl (same, at)

module _ (run : RunJob) where
  -- nothing was done
  pub rest_none : (a : Halves) → KeepsRest run a a
  rest_none a = record { inputs = refl; others = others_same run a.writing.held a.writing.held refl; capture_read = inl (refl, refl) }

  -- nothing was done but writing
  pub rest_written : (r : Readable) (w v : WrittenFiles) → Moves w.held v.held (OthersKept run) → KeepsRest run (halves r w) (halves r v)
  rest_written r w v others = record { inputs = refl; others = others; capture_read = inl (refl, refl) }

  -- behind writing, and before it
  pub rest_after : (r : Readable) (w v : WrittenFiles) (d : Halves) → Moves w.held v.held (OthersKept run) → KeepsRest run (halves r v) d →
      KeepsRest run (halves r w) d
  rest_after r w v d others rest = record {
    inputs = rest.inputs;
    others = others_more run w.held v.held d.writing.held others rest.others;
    capture_read = rest.capture_read;
  }

  pub rest_before : (a : Halves) (r : Readable) (w v : WrittenFiles) → KeepsRest run a (halves r w) → Moves w.held v.held (OthersKept run) →
      KeepsRest run a (halves r v)
  rest_before a r w v rest others = record {
    inputs = rest.inputs;
    others = others_more run a.writing.held w.held v.held rest.others others;
    capture_read = rest.capture_read;
  }

  -- the records were read
  pub rest_read : (failed : Bool) (a b : Halves) → Moves a.writing.held b.writing.held (OthersKept run) → ReadsOf failed run.input a.reading b.reading →
      KeepsRest run a b
  rest_read failed a b others reads = record {
    inputs = reads.held;
    others = others;
    capture_read = failed_by failed run.input (λ _. Unit {0}) a.reading b.reading reads.lost reads.last;
  }

  -- the capture was not opened
  pub rest_unopened : (k : List ℕ) → k ≡ run.input → (Inside : ℕ → Type 0) (a b : Readable) (w : WrittenFiles) (error : CaptureError) →
      OnlyReads (failed_as error) k Inside a b → KeepsRest run (halves a w) (halves b w)
  rest_unopened k named Inside a b w error only = record {
    inputs = only.held;
    others = others_same run w.held w.held refl;
    capture_read = rw (← named) (failed_by (failed_as error) k Inside a b only.lost only.last);
  }

-- a read of one of some files is one of more
pub read_among : {names more : List (List ℕ)} {last : Option (List ℕ × ℕ)} → ((name : List ℕ) → Contains names name → Contains more name) →
    IsReadOf names last → IsReadOf more last
read_among wider failed = record { name = failed.name; place = failed.place; among = wider failed.name failed.among; last_is = failed.last_is }

pub fails_behind : (input : List ℕ) (s : Status) (a b : Readable) → MayFailIn input a b → FailsBehind input s a b
fails_behind input status.WriteFault a b may = may
fails_behind input status.OutOfMemory a b may = may
fails_behind input _ a b may = tt
