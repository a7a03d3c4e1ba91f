-- What command words come to where nobody is waited for.
use Rattle.lwaftr_engine.proofs.Words.{◌≡◌, ◌⊎◌, ℕ, Option, None, inl, inr, refl, sym, ◌∙◌, RunJob, HistoryValue, HasCause, HasOneCause}
use Rattle.lwaftr_engine.proofs.Words.{KeepsDemo, KeepsRun, Leaves, IsLeft, World, Status}
use Rattle.lwaftr_engine.proofs.Adding.{others_same}
use Rattle.lwaftr_engine.proofs.Moving.{moves_none, told_all}
use Rattle.lwaftr_engine.specs.declared.at_once.AtOnce.TheVariants as at_once
use Rattle.lwaftr_engine.specs.declared.status.Status.TheVariants as status

-- a job that was left to others is the one that is asked for, or memory was short
pub short_run : {run : RunJob} {s : Status} → IsLeft (at_once.Run run) (at_once.Ended s) → s ≡ status.OutOfMemory
short_run (inl left) = absurd (cc left)
short_run (inr short) = cc short

pub short_demo : {seed count workers : ℕ} {s : Status} → IsLeft (at_once.Demo seed count workers) (at_once.Ended s) → s ≡ status.OutOfMemory
short_demo (inl left) = absurd (cc left)
short_demo (inr short) = cc short

pub same_run : {run other : RunJob} → IsLeft (at_once.Run other) (at_once.Run run) → run ≡ other
same_run (inl left) = cc left
same_run (inr short) = absurd (cc short)

pub same_demo : {seed count workers s c w : ℕ} → IsLeft (at_once.Demo s c w) (at_once.Demo seed count workers) → (seed ≡ s) × (count ≡ c)
same_demo (inl left) = (cc left, cc left)
same_demo (inr short) = absurd (cc short)

pub run_not_demo : {run : RunJob} {s c w : ℕ} → IsLeft (at_once.Demo s c w) (at_once.Run run) → ⊥
run_not_demo (inl left) = absurd (cc left)
run_not_demo (inr short) = absurd (cc short)

pub demo_not_run : {run : RunJob} {s c w : ℕ} → IsLeft (at_once.Run run) (at_once.Demo s c w) → ⊥
demo_not_run (inl left) = absurd (cc left)
demo_not_run (inr short) = absurd (cc short)

-- memory was short before anything was done
pub no_run : (run : RunJob) (s : Status) (w : World) (history : Option HistoryValue) → s ≡ status.OutOfMemory → history ≡ None → KeepsRun run s w w history
no_run run s w history short none =
    rw short (rw none (record {
      files = told_all w.reading.held _ (λ i. moves_none w.writing.held w.writing.held (Leaves run status.OutOfMemory w w None i)
          (λ m. inl (record { files = refl; sink = refl; none = refl }, record { lost = refl; spoiled = refl; last = refl })) refl);
      read_kept = refl;
      others = others_same run w.writing.held w.writing.held refl;
      due = told_all w.reading.held _ (λ i. told_all w.writing.held _ (λ m s asked. inr tt));
      cause = record { spoiled = refl; puts = refl };
      failed_read = tt;
      capture_read = inl (refl, refl);
      has_history = refl;
    }))

pub no_show : (seed count : ℕ) (s : Status) (w : World) (history : Option HistoryValue) → s ≡ status.OutOfMemory → history ≡ None →
    KeepsDemo seed count s w w history
no_show seed count s w history short none =
    rw short (rw none (record {
      read_kept = refl;
      kept = refl;
      line = inl refl;
      cause = record { lost = refl; spoiled = refl; puts = refl };
      due = inr (inr refl);
      history_is = refl;
    }))

pub one_cause : (s : Status) (before now : World) → HasOneCause s before now → HasCause s before now
one_cause status.OutOfMemory before now cause = record { spoiled = cause.spoiled; puts = cause.puts }
one_cause _ before now cause = cause

pub not_usage : (run : RunJob) (s : Status) (before now : World) (history : Option HistoryValue) → KeepsRun run s before now history → s ≡ status.Usage → ⊥
not_usage run s before now history kept is = (rw is at kept).has_history

pub show_not_usage : (s : Status) → (s ≡ status.Done) ⊎ ((s ≡ status.WriteFault) ⊎ (s ≡ status.OutOfMemory)) → s ≡ status.Usage → ⊥
show_not_usage s (inl done) is = absurd (cc (sym done ∙ is))
show_not_usage s (inr (inl failed)) is = absurd (cc (sym failed ∙ is))
show_not_usage s (inr (inr short)) is = absurd (cc (sym short ∙ is))
