-- What a job finds outside, and what it leaves there.
use Rattle.std.specs.Prelude.{List, Option, ℕ}
use Rattle.lwaftr_engine.specs.Words.{Readable, WrittenFiles}

-- the two halves of the files, what the sink took so far (where that is told), and how many puts failed
pub record World : Type 0 where
  pub reading : Readable
  pub writing : WrittenFiles
  pub said : Option (List ℕ)
  pub puts : ℕ

abbrev pub world : Readable → WrittenFiles → Option (List ℕ) → ℕ → World
world reading writing said puts = record { reading = reading; writing = writing; said = said; puts = puts }

-- the files alone
pub record Halves : Type 0 where
  pub reading : Readable
  pub writing : WrittenFiles

abbrev pub halves : Readable → WrittenFiles → Halves
halves reading writing = record { reading = reading; writing = writing }
