-- The count of reads, where it is told.
use Rattle.std.specs.Prelude.{ℕ, ◌+◌, Option, Some, None}

-- a told count after so many more reads
abbrev pub read_more : Option ℕ → ℕ → Option ℕ
read_more None n = None
read_more (Some k) n = Some (k + n)
