-- What the answers of reading say of the files' counts, and of what the bytes are.
use Rattle.std.specs.Prelude.{◌≡◌, ℕ, ◌+◌, ◌<◌, Bool, true, false, List, [], ◌∷◌, drop, Option, Some, None, Result, Ok, Err}
use Rattle.aftr_io.specs.declared.outside.Fault.{Fault}
use Rattle.aftr_io.specs.declared.outside.Fault.TheVariants as fault
use Rattle.aftr_io.specs.Contents.{Contents, content, Told}
use Rattle.capture_io.specs.declared.forms.Rec.{Rec}
use Rattle.capture_io.specs.declared.forms.Next.{Next}
use Rattle.capture_io.specs.declared.forms.Next.TheVariants as next
use Rattle.capture_io.specs.declared.forms.CaptureBad.{CaptureBad}
use Rattle.capture_io.specs.declared.forms.CaptureError.{CaptureError}
use Rattle.capture_io.specs.declared.forms.CaptureError.TheVariants as error
use Rattle.capture_io.specs.Record.{next_in}
use Rattle.capture_io.specs.Capture.{Splits}

-- a fault of the outside, as an answer of reading
abbrev pub error_of : Fault → CaptureError
error_of fault.Failed = error.ReadFault
error_of fault.OutOfMemory = error.OutOfMemory

-- the answer is what the bytes are; where a read failed or memory was short it says nothing of them
abbrev pub Agrees : {T : Type 0} → Result T CaptureError → Result T CaptureBad → Type 0
Agrees (Ok value) read = read ≡ Ok value
Agrees (Err (error.Bad refusal)) read = read ≡ Err refusal
Agrees (Err error.ReadFault) read = Unit {0}
Agrees (Err error.OutOfMemory) read = Unit {0}

-- whether a read failed, by the answer
abbrev pub is_read_fault : {T : Type 0} → Result T CaptureError → Bool
is_read_fault (Ok _) = false
is_read_fault (Err (error.Bad _)) = false
is_read_fault (Err error.ReadFault) = true
is_read_fault (Err error.OutOfMemory) = false

-- before the end of the record, if a whole one stands here
abbrev pub IsBeforeEnd : Option Contents → List ℕ → Bool → ℕ → ℕ → ℕ → Type 0
IsBeforeEnd held name big at number place = Told held (λ m. (r : Rec) → next_in big (drop at (content m name)) at number ≡ Ok (next.Rec r) → place < r.next_at)

-- The answer for a place of the file is a step of its definition: a record goes before whatever the rest of the file is
-- from its `next_at` on, and each other answer is an ending.
abbrev pub Continues : Result Next CaptureError → Bool → List ℕ → ℕ → ℕ → Type 0
Continues (Ok (next.Rec r)) big bytes at number = (rs : List Rec) (ending : Option CaptureBad) →
    Splits big (drop r.next_at bytes) r.next_at (number + 1) rs ending → Splits big (drop at bytes) at number (r ∷ rs) ending
Continues (Ok next.End) big bytes at number = Splits big (drop at bytes) at number [] None
Continues (Err (error.Bad refusal)) big bytes at number = Splits big (drop at bytes) at number [] (Some refusal)
Continues (Err error.ReadFault) big bytes at number = Unit {0}
Continues (Err error.OutOfMemory) big bytes at number = Unit {0}
