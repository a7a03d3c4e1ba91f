-- Where a refusal can come from, whatever the bytes are: the file header, or what stands behind it.
use Rattle.std.specs.Prelude.{◌≡◌, ◌≤◌, Option, Some, None}
use Rattle.capture_io.specs.declared.forms.CaptureBad.{CaptureBad}
use Rattle.capture_io.specs.declared.forms.CaptureBad.TheVariants as bad
use Rattle.capture_io.specs.declared.forms.CaptureError.{CaptureError}
use Rattle.capture_io.specs.declared.forms.CaptureError.TheVariants as error
use Rattle.capture_io.specs.declared.ng_bad.NgBad.{NgBad}
use Rattle.capture_io.specs.declared.ng_bad.NgBad.TheVariants as ng
use Rattle.capture_io.specs.declared.rounds.Ending.{Ending}
use Rattle.capture_io.specs.declared.rounds.Ending.TheVariants as ending

-- The blocks up to the first interface of a pcapng file: no packet is found there, there are no interfaces before them, and no link
-- type to compare theirs with.
abbrev pub IsOfFirstBlocks : NgBad → Type 0
IsOfFirstBlocks (ng.Interfaces at) = ⊥
IsOfFirstBlocks (ng.MixedLinks at) = ⊥
IsOfFirstBlocks (ng.TooMany at) = ⊥
IsOfFirstBlocks (ng.TooLong at) = ⊥
IsOfFirstBlocks (ng.Captured at) = ⊥
IsOfFirstBlocks (ng.Time at) = ⊥
IsOfFirstBlocks _ = Unit {0}

-- The file header. A classic one has 24 bytes.
abbrev pub IsOfHeader : CaptureBad → Type 0
IsOfHeader bad.Magic = Unit {0}
IsOfHeader bad.Version = Unit {0}
IsOfHeader (bad.Link number) = Unit {0}
IsOfHeader (bad.CutHeader at) = at ≡ 0
IsOfHeader (bad.Ng refusal) = IsOfFirstBlocks refusal
IsOfHeader _ = ⊥

-- what stands behind it: in a pcapng file any block
abbrev pub IsOfRecord : CaptureBad → Type 0
IsOfRecord (bad.CutHeader at) = 24 ≤ at
IsOfRecord (bad.CutRecord at) = 24 ≤ at
IsOfRecord (bad.TooLong at) = 24 ≤ at
IsOfRecord (bad.TooMany at) = 24 ≤ at
IsOfRecord (bad.Ng refusal) = Unit {0}
IsOfRecord _ = ⊥

-- an answer of opening that is a refusal is one of the file header
abbrev pub RefusesHeader : CaptureError → Type 0
RefusesHeader (error.Bad refusal) = IsOfHeader refusal
RefusesHeader error.ReadFault = Unit {0}
RefusesHeader error.OutOfMemory = Unit {0}

-- records that ended with a refusal did so with one of a record
abbrev pub EndsInRecords : Option Ending → Type 0
EndsInRecords (Some (ending.Bad refusal)) = IsOfRecord refusal
EndsInRecords (Some ending.End) = Unit {0}
EndsInRecords (Some ending.ReadFault) = Unit {0}
EndsInRecords None = Unit {0}
