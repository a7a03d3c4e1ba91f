-- Blocks of which no more is kept than the front: the rest goes as it comes.
use Rattle.std.specs.Prelude.{◌≡◌, ℕ, ◌+◌, ◌-◌, ◌<◌, ◌≤◌, ◌==◌, nat_lt, Bool, not, List, [], ◌∷◌, length, drop, Option, Some, None, Result, Ok, Err}
use Rattle.aftr_base.specs.First.{first_true}
use Rattle.aftr_base.specs.Numbers.{span}
use Rattle.aftr_io.specs.Contents.{Contents, content, Told}
use Rattle.capture_io.specs.Fronts.{IsFront}
use Rattle.capture_io.specs.Words.{word_at}
use Rattle.capture_io.specs.declared.forms.CaptureBad.{CaptureBad}
use Rattle.capture_io.specs.declared.forms.CaptureBad.TheVariants as bad
use Rattle.capture_io.specs.declared.ng_bad.NgBad.TheVariants as ng
use Rattle.pcapng_io.specs.declared.block.Block.{Block}
use Rattle.pcapng_io.specs.declared.block.Block.TheVariants as block
use Rattle.pcapng_io.specs.declared.frame.Frame.{Frame}
use Rattle.pcapng_io.specs.declared.interface.Walked.{Walked}
use Rattle.pcapng_io.specs.declared.interface.Walked.TheVariants as walked
use Rattle.pcapng_io.specs.Results.{unless, ◌>>=◌}
use Rattle.pcapng_io.specs.Seen.{Seen}
use Rattle.pcapng_io.specs.Blocks.{block_in, size_of}
use Rattle.pcapng_io.specs.Files.{IsBefore}
use Rattle.pcapng_io.specs.Interfaces.{options_in, resolution_of, rest_from}
use Rattle.capture_io.specs.Windows.{Ahead}

-- what was found in front goes before what is found behind
abbrev pub or_later : Option ℕ → Option ℕ → Option ℕ
or_later None later = later
or_later (Some byte) later = Some byte

abbrev pub with_found : Option ℕ → Result (Option ℕ) CaptureBad → Result (Option ℕ) CaptureBad
with_found found (Err refusal) = Err refusal
with_found found (Ok later) = Ok (or_later found later)

-- the resolution that all options give, by what was found in front of a place and what stands from there on
abbrev pub all_from : Bool → List ℕ → ℕ → ℕ → ℕ → Option ℕ → Result (Option ℕ) CaptureBad
all_from big bytes at place end found = with_found found (resolution_of at (options_in big (rest_from bytes place end)))

-- a walk over options, from a place on
abbrev pub Walks : Bool → List ℕ → ℕ → ℕ → ℕ → Option ℕ → Walked → Type 0
Walks big bytes at place end found (walked.Over now) = all_from big bytes at place end found ≡ Ok now
Walks big bytes at place end found (walked.Bad refusal) = all_from big bytes at place end found ≡ Err refusal
Walks big bytes at place end found (walked.More next now) = all_from big bytes at place end found ≡ all_from big bytes at next end now

-- what it refuses is options, of the block at a place
abbrev pub IsBadWalk : ℕ → Walked → Type 0
IsBadWalk at (walked.Over now) = Unit {0}
IsBadWalk at (walked.Bad refusal) = refusal ≡ bad.Ng (ng.Options at)
IsBadWalk at (walked.More next now) = Unit {0}

-- it stops only where so many bytes are not all
abbrev pub StopsIn : ℕ → ℕ → ℕ → Walked → Type 0
StopsIn place size end (walked.Over now) = Unit {0}
StopsIn place size end (walked.Bad refusal) = Unit {0}
StopsIn place size end (walked.More next now) = (place ≤ next) × (next + 4 ≤ end) × (size < end)

-- a frame by its last four bytes, with which these begin
abbrev pub tail_in : Frame → List ℕ → ℕ → Result Frame CaptureBad
tail_in frame last at =
    unless (first_true ((nat_lt (length last) 4, ng.Cut at) ∷ (not (word_at frame.big last 0 == frame.total), ng.Length at) ∷ [])) (Ok frame)

abbrev pub tail_of : Frame → List ℕ → ℕ → Result Frame CaptureBad
tail_of frame left at = tail_in frame (drop (frame.total - 4) left) at

-- what a block's end lets stand of what was said of the block
abbrev pub ended : {A : Type 0} → Frame → List ℕ → ℕ → Result A CaptureBad → Result A CaptureBad
ended frame left at said = tail_of frame left at >>= (λ f. said)

-- what stands from a block's last four bytes on, as far as it says whether they are there and what they are
pub record IsEnd (last left : List ℕ) : Type 0 where
  pub few : nat_lt (length last) 4 ≡ nat_lt (length left) 4
  pub word : span last 0 4 ≡ span left 0 4

-- what is told of a file where a window's bytes stand at a place of it
abbrev pub WithFront : Option Contents → List ℕ → ℕ → Ahead → (List ℕ → Type 0) → Type 0
WithFront held name at window P = Told held (λ m. IsFront window.bytes window.last (drop at (content m name)) → P (content m name))

-- a window that stands at a place of these bytes
abbrev pub StandsAt : ℕ → Ahead → List ℕ → Type 0
StandsAt at window bytes = IsFront window.bytes window.last (drop at bytes)

-- where a window stands behind a block that was read: before a packet's bytes, and behind any other block
abbrev pub StandsIn : List ℕ → ℕ → Ahead → Block → Type 0
StandsIn bytes at window block.End = StandsAt at window bytes
StandsIn bytes at window (block.Packet p) = StandsAt at window bytes
StandsIn bytes at window (block.Passed p) = StandsAt (at + size_of p) window bytes

-- a block that is no packet, of so many bytes
abbrev pub IsPassed : ℕ → Block → Type 0
IsPassed total block.End = ⊥
IsPassed total (block.Packet p) = ⊥
IsPassed total (block.Passed p) = size_of p ≡ total

-- a block that is no packet has more bytes than so many
abbrev pub IsLonger : ℕ → Block → Type 0
IsLonger size block.End = Unit {0}
IsLonger size (block.Packet p) = Unit {0}
IsLonger size (block.Passed p) = size < size_of p

-- a packet's bytes are there
abbrev pub HasBytes : Block → Ahead → Type 0
HasBytes block.End window = Unit {0}
HasBytes (block.Packet p) window = p.start + p.count ≤ length window.bytes
HasBytes (block.Passed p) window = Unit {0}

-- both, in the file
abbrev pub StandsBy : Option Contents → List ℕ → ℕ → Ahead → Block → Type 0
StandsBy held name at window b = Told held (λ m. StandsIn (content m name) at window b) × HasBytes b window

-- a place of the block that stands at a place of the file, if a window's bytes stand there
abbrev pub IsInLong : Option Contents → List ℕ → Seen → ℕ → Ahead → ℕ → Type 0
IsInLong held name seen number window place =
    (seen.known.at ≤ place)
    × WithFront held name seen.known.at window (λ all. (b : Block) → block_in seen (drop seen.known.at all) number ≡ Ok b → IsBefore place seen.known.at b)
