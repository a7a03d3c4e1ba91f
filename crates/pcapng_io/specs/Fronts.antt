-- What the front of what is left says of the block that stands there, where only the front was read.
use Rattle.std.specs.Prelude.{◌≡◌, ℕ, ◌^◌, ◌<◌, ◌≤◌, nat_lt, Bool, true, false, not, ◌&&◌, if◌then◌else◌, List, length, Result, Ok, Err}
use Rattle.capture_io.specs.declared.forms.CaptureBad.{CaptureBad}
use Rattle.pcapng_io.specs.declared.frame.Frame.{Frame}
use Rattle.pcapng_io.specs.declared.block.Block.{Block}
use Rattle.pcapng_io.specs.declared.block.Block.TheVariants as block
use Rattle.pcapng_io.specs.declared.block.Known.{Known}
use Rattle.pcapng_io.specs.declared.block.Packet.{Packet}
use Rattle.pcapng_io.specs.declared.interface.Interface.{Interface}
use Rattle.pcapng_io.specs.declared.fronts.Front.{Front}
use Rattle.pcapng_io.specs.declared.fronts.Front.TheVariants as front
use Rattle.pcapng_io.specs.Seen.{Seen, seen_by}
use Rattle.pcapng_io.specs.Frames.{head_in}
use Rattle.pcapng_io.specs.Blocks.{block_in}
use Rattle.pcapng_io.specs.Files.{IsSound, IsSoundPacket}

-- how many bytes say what the block is: all of it, where the first twelve are not refused
abbrev pub needed_by : Result Frame CaptureBad → ℕ
needed_by (Ok frame) = frame.total
needed_by (Err refusal) = 12

abbrev pub needed : Bool → List ℕ → ℕ → ℕ
needed big first at = needed_by (head_in big first at)

-- fewer are there; behind the last place of a block none is asked for
abbrev pub is_short : Seen → List ℕ → Bool
is_short seen first = not (nat_lt (2 ^ 62) seen.known.at) && nat_lt (length first) (needed seen.known.big first seen.known.at)

abbrev pub front_by : Result Block CaptureBad → Front
front_by (Err refusal) = front.Bad refusal
front_by (Ok block.End) = front.End
front_by (Ok (block.Packet p)) = front.Packet p
front_by (Ok (block.Passed p)) = front.Passed p

-- Where too few bytes are there and more may come, nothing is said yet; and else what all of them say that are there.
abbrev pub front_in : Seen → List ℕ → Bool → ℕ → Front
front_in seen first last number = if not last && is_short seen first then front.More else front_by (block_in seen first number)

-- what holds of a block at the front whatever the bytes are
abbrev pub IsSoundFront : ℕ → Front → Type 0
IsSoundFront number (front.Packet p) = IsSoundPacket number p
IsSoundFront number (front.Passed p) = IsSound number (block.Passed p)
IsSoundFront number front.End = Unit {0}
IsSoundFront number (front.Bad refusal) = Unit {0}
IsSoundFront number front.More = Unit {0}

-- a packet is what the front says wherever its block stands, whatever its number is, and whether or not something follows
abbrev pub IsSaidAnywhere : Bool → List Interface → List ℕ → Packet → Type 0
IsSaidAnywhere big interfaces first p = (known : Known) (number : ℕ) (last : Bool) → known.big ≡ big → known.at ≤ 2 ^ 62 → number < 2 ^ 31 →
    front_in (seen_by known interfaces) first last number ≡ front.Packet p

-- and its parts are in range
abbrev pub IsSoundAnywhere : Packet → Type 0
IsSoundAnywhere p = (number : ℕ) → number < 2 ^ 31 → IsSoundPacket number p

-- the front says nothing yet
abbrev pub is_more : Front → Bool
is_more (front.Packet p) = false
is_more (front.Passed p) = false
is_more front.End = false
is_more (front.Bad refusal) = false
is_more front.More = true
