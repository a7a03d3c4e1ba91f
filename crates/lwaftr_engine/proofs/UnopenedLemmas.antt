-- A capture that cannot be opened.
use Rattle.lwaftr_engine.proofs.Words.{◌≡◌, ℕ, Bool, true, false, List, Option, Some, None, Result, Err, inl, inr, refl, sym, ap, subst, Contents}
use Rattle.lwaftr_engine.proofs.Words.{content, Moves, Told, FailsAt, OnlyReads, RunJob, is_read_fault, RefusesHeader, CaptureError}
use Rattle.lwaftr_engine.proofs.Words.{NoneOfFilesRose, header_by, header_of, in_blocks, in_classic, IsEarly, LeavesMade, unopened_status, HasHistory}
use Rattle.lwaftr_engine.proofs.Words.{IsInHead, IsInHeadBy, OpensEither, RefusesBy, Reader, Slot, Tables, World}
use Rattle.lwaftr_engine.proofs.Moving.{told_still}
use Rattle.lwaftr_engine.proofs.JobLemmas.{early_blocks, early_classic}
use Rattle.capture_io.specs.declared.forms.CaptureError.TheVariants as failure
use Rattle.pcapng_io.specs.Captures as blocks

-- a read failed, by an answer of some call
abbrev pub failed_as : CaptureError → Bool
failed_as error = let r : Result Reader CaptureError = Err error in is_read_fault r

-- where memory was short no call failed
abbrev pub IsShort : World → World → CaptureError → Type 0
IsShort before after (failure.Bad refusal) = Unit {0}
IsShort before after failure.ReadFault = Unit {0}
IsShort before after failure.OutOfMemory = NoneOfFilesRose before after

pub is_short : (name : List ℕ) (Inside : ℕ → Type 0) (before after : World) (error : CaptureError) → after.writing.spoiled ≡ before.writing.spoiled →
    OnlyReads (failed_as error) name Inside before.reading after.reading → IsShort before after error
is_short name Inside before after (failure.Bad refusal) spoiled only = tt
is_short name Inside before after failure.ReadFault spoiled only = tt
is_short name Inside before after failure.OutOfMemory spoiled only = record { lost = only.lost; spoiled = spoiled; last = only.last }

-- why it was not opened
abbrev pub IsUnopened : RunJob → Contents → Option (List ℕ × ℕ) → CaptureError → Type 0
IsUnopened run m last (failure.Bad refusal) = header_of (content m run.input) ≡ Err refusal
IsUnopened run m last failure.ReadFault = IsEarly run.input (content m run.input) last
IsUnopened run m last failure.OutOfMemory = Unit {0}

-- which format it is, is told by the bytes
by_format : (run : RunJob) (m : Contents) (error : CaptureError) (old last : Option (List ℕ × ℕ)) (is : Bool) → is ≡ blocks.is_pcapng (content m run.input) →
    RefusesBy error is (content m run.input) → FailsAt (failed_as error) run.input (IsInHeadBy is (content m run.input)) old last →
    IsUnopened run m last error
by_format run m (failure.Bad refusal) old last true kind refuses failed =
    let H : Bool → Type 0 = λ b. header_by b (content m run.input) ≡ Err refusal in subst H kind (ap in_blocks refuses)
by_format run m (failure.Bad refusal) old last false kind refuses failed =
    let H : Bool → Type 0 = λ b. header_by b (content m run.input) ≡ Err refusal in subst H kind (ap in_classic refuses)
by_format run m failure.ReadFault old last true kind refuses failed = early_blocks m run.input old last kind failed
by_format run m failure.ReadFault old last false kind refuses failed = early_classic run.input (content m run.input) old last kind failed
by_format run m failure.OutOfMemory old last is kind refuses failed = tt

pub by_name : (run : RunJob) (h : Option Contents) (error : CaptureError) (old last : Option (List ℕ × ℕ)) →
    Told h (λ m. OpensEither (Err error) (content m run.input))
    → FailsAt (failed_as error) run.input (IsInHead h run.input) old last → Told h (λ m. IsUnopened run m last error)
by_name run None error old last opened failed = tt
by_name run (Some m) error old last opened failed = by_format run m error old last (blocks.is_pcapng (content m run.input)) refl opened failed

by_error : (run : RunJob) (plan : Tables) (slots : List Slot) (error : CaptureError) (i m : Contents) (before now : World) → now.said ≡ before.said →
    IsShort before now error →
    IsUnopened run i now.reading.last error → LeavesMade run plan slots (unopened_status error) before now None i m m
by_error run plan slots (failure.Bad refusal) i m before now same short why = λ tables windows of.
    inr (why, record { files = refl; sink = same; none = refl })
by_error run plan slots failure.ReadFault i m before now same short why = λ tables windows of. inr (why, record { files = refl; sink = same; none = refl })
by_error run plan slots failure.OutOfMemory i m before now same short why = λ tables windows of.
    inl (record { files = refl; sink = same; none = refl }, short)

pub unopened_leaves : (run : RunJob) (plan : Tables) (slots : List Slot) (error : CaptureError) (before now : World) →
    now.writing.held ≡ before.writing.held → now.said ≡ before.said →
    IsShort before now error → Told before.reading.held (λ i. IsUnopened run i now.reading.last error) →
    Told before.reading.held (λ i. Moves before.writing.held now.writing.held (LeavesMade run plan slots (unopened_status error) before now None i))
unopened_leaves run plan slots error before now held same short why =
    told_still before.reading.held before.writing.held now.writing.held _ (LeavesMade run plan slots (unopened_status error) before now None)
    (λ i m because. by_error run plan slots error i m before now same short because) held why

-- where the capture is not opened there is no history
pub history_by_error : (input : List ℕ) (error : CaptureError) (last : Option (List ℕ × ℕ)) (said : Option (List ℕ)) → RefusesHeader error →
    HasHistory input (unopened_status error) last said said None
history_by_error input (failure.Bad refusal) last said refuses = (refuses, refl)
history_by_error input failure.ReadFault last said refuses = refl
history_by_error input failure.OutOfMemory last said refuses = refl
