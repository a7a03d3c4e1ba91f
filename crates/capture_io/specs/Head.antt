-- The header of a record alone.
use Rattle.std.specs.Prelude.{ℕ, Bool, List, Result}
use Rattle.aftr_base.specs.First.{first_true, refused_or}
use Rattle.capture_io.specs.declared.forms.CaptureBad.{CaptureBad}
use Rattle.capture_io.specs.declared.record.Head.{Head}
use Rattle.capture_io.specs.Record.{captured, head_refusals}
use Rattle.capture_io.specs.Words.{word_at}

-- what the header says, unless it is refused
abbrev pub head_in : Bool → List ℕ → ℕ → ℕ → Result Head CaptureBad
head_in big left at number = refused_or (first_true (head_refusals big left at number))
    (record { seconds = word_at big left 0; fraction = word_at big left 4; captured = captured big left })
