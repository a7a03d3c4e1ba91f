-- Values, each behind a list of conditions that refuse it.
use Rattle.std.specs.Prelude.{Option, Some, None, Result, Ok, Err}
use Rattle.capture_io.specs.declared.forms.CaptureBad.{CaptureBad}
use Rattle.capture_io.specs.declared.forms.CaptureBad.TheVariants as bad
use Rattle.capture_io.specs.declared.ng_bad.NgBad.{NgBad}

-- the refusal, if there is one, and else this
abbrev pub unless : {A : Type 0} → Option NgBad → Result A CaptureBad → Result A CaptureBad
unless (Some refusal) good = Err (bad.Ng refusal)
unless None good = good

-- what follows where the first is not refused
infixl 10 ◌>>=◌
abbrev pub ◌>>=◌ : {A B : Type 0} → Result A CaptureBad → (A → Result B CaptureBad) → Result B CaptureBad
Ok a >>= f = f a
Err refusal >>= f = Err refusal
