-- A whole capture: a file header, a list of records taken off the front one by one, and how they end.
use Rattle.std.specs.Prelude.{◌≡◌, ℕ, ◌+◌, Bool, List, [], ◌∷◌, length, drop, Option, Some, None, Result, Ok, Err}
use Rattle.capture_io.specs.declared.forms.Form.{Form}
use Rattle.capture_io.specs.declared.forms.Rec.{Rec}
use Rattle.capture_io.specs.declared.forms.Next.TheVariants as next
use Rattle.capture_io.specs.declared.forms.CaptureBad.{CaptureBad}
use Rattle.capture_io.specs.Header.{header_in}
use Rattle.capture_io.specs.Record.{next_in}

-- What is left, from a place of the file on, is these records and no more: after the last of them nothing is left, or
-- something that is refused. The first of them has this number.
abbrev pub Splits : Bool → List ℕ → ℕ → ℕ → List Rec → Option CaptureBad → Type 0
Splits big left at number [] None = next_in big left at number ≡ Ok next.End
Splits big left at number [] (Some refusal) = next_in big left at number ≡ Err refusal
Splits big left at number (r ∷ rs) ending = (next_in big left at number ≡ Ok (next.Rec r))
    × Splits big (drop (16 + length r.bytes) left) r.next_at (number + 1) rs ending

-- The bytes of a capture are a header and these records; a header that is refused leaves none.
abbrev pub IsCapture : List ℕ → Result Form CaptureBad → List Rec → Option CaptureBad → Type 0
IsCapture bytes (Ok form) rs ending = (header_in bytes ≡ Ok form) × Splits form.big (drop 24 bytes) 24 0 rs ending
IsCapture bytes (Err refusal) rs ending = (header_in bytes ≡ Err refusal) × (rs ≡ []) × (ending ≡ Some refusal)
