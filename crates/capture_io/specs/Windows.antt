-- Bytes that were read ahead of a file.
use Rattle.std.specs.Prelude.{◌≡◌, ℕ, Bool, List, drop, take, Option}
use Rattle.aftr_io.specs.Contents.{Contents, content, Told}
use Rattle.capture_io.specs.Fronts.{IsFront, IsStart}

-- the bytes that were read and not used, and whether nothing stands behind them
pub record Ahead : Type 0 where
  pub bytes : List ℕ
  pub last : Bool

-- the bytes are the first of what is left of the file from a place on
abbrev pub IsAtFront : Option Contents → List ℕ → ℕ → Ahead → Type 0
IsAtFront held name at window = Told held (λ m. IsFront window.bytes window.last (drop at (content m name)))

-- more was read behind the bytes, if they stand at a place of the file
abbrev pub IsMore : Option Contents → List ℕ → ℕ → Ahead → Ahead → Type 0
IsMore held name at before now = Told held (λ m. IsStart before.bytes (drop at (content m name)) → IsFront now.bytes now.last (drop at (content m name)))

-- a list whose front is kept, and which holds some bytes of a file behind it
abbrev pub IsBehind : Option Contents → List ℕ → ℕ → List ℕ → ℕ → ℕ → Type 0
IsBehind held name place now filled count = Told held (λ m. take count (drop filled now) ≡ take count (drop place (content m name)))
