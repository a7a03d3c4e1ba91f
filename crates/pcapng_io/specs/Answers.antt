-- What the answers of a reader say.
use Rattle.std.specs.Prelude.{◌≡◌, ℕ, ◌+◌, ◌^◌, ◌<◌, ◌≤◌, List, [], ◌∷◌, length, drop, Option, Some, None, Result, Ok, Err}
use Rattle.aftr_io.specs.Contents.{Contents, content, Told}
use Rattle.capture_io.specs.declared.forms.Rec.{Rec}
use Rattle.capture_io.specs.declared.forms.Next.{Next}
use Rattle.capture_io.specs.declared.forms.Next.TheVariants as next
use Rattle.capture_io.specs.declared.forms.CaptureBad.{CaptureBad}
use Rattle.capture_io.specs.declared.forms.CaptureBad.TheVariants as bad
use Rattle.capture_io.specs.Refusals.{IsOfFirstBlocks}
use Rattle.capture_io.specs.declared.forms.CaptureError.{CaptureError}
use Rattle.capture_io.specs.declared.forms.CaptureError.TheVariants as error
use Rattle.pcapng_io.specs.declared.block.Known.{Known}
use Rattle.pcapng_io.specs.declared.interface.Interface.{Interface}
use Rattle.pcapng_io.specs.declared.record.Found.{Found}
use Rattle.pcapng_io.specs.declared.walk.Sighted.{Sighted}
use Rattle.pcapng_io.specs.Seen.{IsSoundSeen, Seen, seen_by}
use Rattle.pcapng_io.specs.Blocks.{record_of, seen_behind}
use Rattle.pcapng_io.specs.Captures.{Ends, Gives, header_in, next_in, Splits, Step}
use Rattle.pcapng_io.specs.Files.{IsSoundPacket, left_at}

-- the answer is what the blocks say; at a packet the reader then stands behind it
abbrev pub IsNext : Result Next CaptureError → Seen → Result Step CaptureBad → Type 0
IsNext (Ok (next.Rec r)) now step = step ≡ Ok (Gives r now)
IsNext (Ok next.End) now step = step ≡ Ok Ends
IsNext (Err (error.Bad refusal)) now step = step ≡ Err refusal
IsNext (Err error.ReadFault) now step = Unit {0}
IsNext (Err error.OutOfMemory) now step = Unit {0}

-- A refusal of a block; and where no interface stands in front of it, one of the first blocks.
abbrev pub IsOfBlock : Seen → CaptureBad → Type 0
IsOfBlock seen (bad.Ng refusal) = length seen.interfaces ≡ 0 → seen.known.link ≡ None → IsOfFirstBlocks refusal
IsOfBlock seen _ = ⊥

abbrev pub RefusesBlock : Seen → CaptureError → Type 0
RefusesBlock seen (error.Bad refusal) = IsOfBlock seen refusal
RefusesBlock seen error.ReadFault = Unit {0}
RefusesBlock seen error.OutOfMemory = Unit {0}

-- where no packet was found the reader is as before
abbrev pub IsKept : Result Next CaptureError → Seen → Seen → Type 0
IsKept (Ok (next.Rec r)) old now = Unit {0}
IsKept (Ok next.End) old now = now ≡ old
IsKept (Err error) old now = now ≡ old

-- what holds of a record whatever the files hold
pub record IsBoundedRec (r : Rec) (from to : Seen) (number : ℕ) : Type 0 where
  pub in_count : number < 2 ^ 31
  pub size : length r.bytes ≤ 262144
  pub time : r.fraction < 1000000000
  pub end : r.next_at ≡ to.known.at
  pub link : to.known.link ≡ from.known.link
  pub behind : from.known.at + length r.bytes < r.next_at

abbrev pub IsBounded : Result Next CaptureError → Seen → Seen → ℕ → Type 0
IsBounded (Ok (next.Rec r)) from to number = IsBoundedRec r from to number
IsBounded (Ok next.End) from to number = Unit {0}
IsBounded (Err error) from to number = Unit {0}

-- The answer is a step of the capture's definition: a record goes before whatever is left behind it, and each other answer is
-- an ending.
abbrev pub Continues : Result Next CaptureError → Seen → Seen → List ℕ → ℕ → Type 0
Continues (Ok (next.Rec r)) old now bytes number = (rs : List Rec) (ending : Option CaptureBad) →
    Splits now (drop now.known.at bytes) (number + 1) rs ending → Splits old (drop old.known.at bytes) number (r ∷ rs) ending
Continues (Ok next.End) old now bytes number = Splits old (drop old.known.at bytes) number [] None
Continues (Err (error.Bad refusal)) old now bytes number = Splits old (drop old.known.at bytes) number [] (Some refusal)
Continues (Err error.ReadFault) old now bytes number = Unit {0}
Continues (Err error.OutOfMemory) old now bytes number = Unit {0}

-- a place from here on, and before the end of the next packet's block, where there is one
abbrev pub IsBeforePacket : Option Contents → List ℕ → Seen → ℕ → ℕ → Type 0
IsBeforePacket held name seen number place = (seen.known.at ≤ place) × Told held (λ m. (r : Rec) (behind : Seen) →
    next_in seen (left_at m name seen.known.at) number ≡ Ok (Gives r behind) → place < r.next_at)

-- a place before the end of the first interface's block, where there is one
abbrev pub EndsBehind : ℕ → List Interface → ℕ → Type 0
EndsBehind place [] end = Unit {0}
EndsBehind place (interface ∷ interfaces) end = place < end

abbrev pub IsInHeader : Option Contents → List ℕ → ℕ → Type 0
IsInHeader held name place = Told held (λ m. (seen : Seen) → header_in (content m name) ≡ Ok seen → EndsBehind place seen.interfaces seen.known.at)

-- What a walk over blocks came to, in a file of these bytes: the next packet, which stands where the walk is. Nothing is known
-- of the interfaces in front of those of its section.
abbrev pub seen_at : Sighted → List Interface → Seen
seen_at s interfaces = seen_by s.known (drop s.first interfaces)

abbrev pub step_at : Sighted → List Interface → List ℕ → Step
step_at s interfaces bytes = Gives (record_of s.known (drop s.known.at bytes) s.packet) (seen_behind (seen_at s interfaces) s.packet)

abbrev pub IsSighted : Result (Option Sighted) CaptureError → List Interface → List ℕ → Result Step CaptureBad → Type 0
IsSighted (Ok (Some s)) interfaces bytes step = step ≡ Ok (step_at s interfaces bytes)
IsSighted (Ok None) interfaces bytes step = step ≡ Ok Ends
IsSighted (Err (error.Bad refusal)) interfaces bytes step = step ≡ Err refusal
IsSighted (Err error.ReadFault) interfaces bytes step = Unit {0}
IsSighted (Err error.OutOfMemory) interfaces bytes step = Unit {0}

pub record IsSoundSight (s : Sighted) (from : Known) (number : ℕ) (interfaces : List Interface) : Type 0 where
  pub forward : from.at ≤ s.known.at
  pub link : s.known.link ≡ from.link
  pub near : s.known.at ≤ 2 ^ 62
  pub within : s.first ≤ length interfaces
  pub packet : IsSoundPacket number s.packet
  pub sound : IsSoundSeen (seen_at s interfaces)

-- the same, with the packet's record and what is known behind it
abbrev pub IsFound : Result (Option Found) CaptureError → List Interface → Result Step CaptureBad → Type 0
IsFound (Ok (Some found)) interfaces step = step ≡ Ok (Gives found.record (seen_by found.known (drop found.first interfaces)))
IsFound (Ok None) interfaces step = step ≡ Ok Ends
IsFound (Err (error.Bad refusal)) interfaces step = step ≡ Err refusal
IsFound (Err error.ReadFault) interfaces step = Unit {0}
IsFound (Err error.OutOfMemory) interfaces step = Unit {0}

pub record IsSoundFound (found : Found) (from : Known) (number : ℕ) (interfaces : List Interface) : Type 0 where
  pub link : found.known.link ≡ from.link
  pub in_count : number < 2 ^ 31
  pub size : length found.record.bytes ≤ 262144
  pub end : found.record.next_at ≡ found.known.at
  pub time : found.record.fraction < 1000000000
  pub behind : from.at + length found.record.bytes < found.known.at
  pub within : found.first ≤ length interfaces
  pub sound : IsSoundSeen (seen_by found.known (drop found.first interfaces))
