-- Blocks at places of a file.
use Rattle.std.specs.Prelude.{◌≡◌, ℕ, ◌+◌, ◌^◌, ◌<◌, ◌≤◌, List, drop, Option, Ok}
use Rattle.aftr_io.specs.Contents.{Contents, content, Told}
use Rattle.capture_io.specs.declared.forms.CaptureError.{CaptureError}
use Rattle.capture_io.specs.declared.forms.CaptureError.TheVariants as error
use Rattle.pcapng_io.specs.declared.block.Block.{Block}
use Rattle.pcapng_io.specs.declared.block.Block.TheVariants as block
use Rattle.pcapng_io.specs.declared.block.Packet.{Packet}
use Rattle.pcapng_io.specs.declared.block.Passed.{Passed}
use Rattle.pcapng_io.specs.declared.block.Passed.TheVariants as passed
use Rattle.pcapng_io.specs.Seen.{Seen}
use Rattle.pcapng_io.specs.Blocks.{block_in, size_of}

-- what is left of a file from a place on
abbrev pub left_at : Contents → List ℕ → ℕ → List ℕ
left_at held name at = drop at (content held name)

-- an error that says nothing of the bytes
abbrev pub IsFault : CaptureError → Type 0
IsFault (error.Bad _) = ⊥
IsFault error.ReadFault = Unit {0}
IsFault error.OutOfMemory = Unit {0}

-- before the end of the block that stands at a place, if one does
abbrev pub IsBefore : ℕ → ℕ → Block → Type 0
IsBefore place at block.End = Unit {0}
IsBefore place at (block.Packet p) = place < at + p.total
IsBefore place at (block.Passed p) = place < at + size_of p

abbrev pub IsInBlock : Option Contents → List ℕ → Seen → ℕ → ℕ → Type 0
IsInBlock held name seen number place = (seen.known.at ≤ place)
    × Told held (λ m. (b : Block) → block_in seen (left_at m name seen.known.at) number ≡ Ok b → IsBefore place seen.known.at b)

-- a packet lies in its block, and has a number, a size and a time in range
pub record IsSoundPacket (number : ℕ) (p : Packet) : Type 0 where
  pub in_count : number < 2 ^ 31
  pub size : p.count ≤ 262144
  pub time : p.nanos < 1000000000
  pub front : p.start ≤ 28
  pub inside : p.start + p.count < p.total
  pub long : p.total < 2 ^ 32

-- a second of an interface has some ticks
abbrev pub IsCounted : Passed → Type 0
IsCounted (passed.Section big total) = Unit {0}
IsCounted (passed.Interface interface link total) = 0 < interface.ticks
IsCounted (passed.Other total) = Unit {0}

-- what holds of a block whatever the files hold
abbrev pub IsSound : ℕ → Block → Type 0
IsSound number block.End = Unit {0}
IsSound number (block.Packet p) = IsSoundPacket number p
IsSound number (block.Passed p) = (12 ≤ size_of p) × (size_of p < 2 ^ 32) × IsCounted p
