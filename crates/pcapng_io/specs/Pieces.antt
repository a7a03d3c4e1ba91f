-- The whole blocks at the front of a piece of a file, and the packets in them.
use Rattle.std.specs.Prelude.{◌≡◌, ℕ, ◌+◌, ◌-◌, ◌^◌, ◌<◌, ◌≤◌, Bool, false, List, [], length, get_or, drop, map, All, Option, Result, Ok, Err}
use Rattle.aftr_base.specs.declared.lists.OutOfMemory.{OutOfMemory}
use Rattle.aftr_io.specs.Contents.{Contents, content, Told}
use Rattle.aftr_io.specs.Outside.{OnlyReads, Readable}
use Rattle.capture_io.specs.declared.forms.Rec.{Rec}
use Rattle.capture_io.specs.declared.records.Place.{Place}
use Rattle.capture_io.specs.declared.rounds.Ending.{Ending}
use Rattle.capture_io.specs.declared.rounds.Round.{Round}
use Rattle.capture_io.specs.Fronts.{IsFront, IsStart}
use Rattle.capture_io.specs.Records.{IsWithin, placed}
use Rattle.capture_io.specs.Refusals.{EndsInRecords}
use Rattle.capture_io.specs.Rounds.{GoesOn, IsCount, IsEnding, IsInNext, IsPlaced, Precedes, all_but_last, bytes_captured, is_cut}
use Rattle.pcapng_io.specs.declared.block.Known.{Known}
use Rattle.pcapng_io.specs.declared.block.Packet.{Packet}
use Rattle.pcapng_io.specs.declared.interface.Interface.{Interface}
use Rattle.pcapng_io.specs.declared.pieces.Taken.{Taken}
use Rattle.pcapng_io.specs.Seen.{IsSoundSeen, Seen, seen_by}
use Rattle.pcapng_io.specs.Captures.{Gives, next_in}
use Rattle.pcapng_io.specs.declared.fronts.Front.TheVariants as front
use Rattle.pcapng_io.specs.declared.long_packets.Long.{Long}
use Rattle.pcapng_io.specs.declared.long_packets.Long.TheVariants as long
use Rattle.pcapng_io.specs.Fronts.{front_in}
use Rattle.capture_io.specs.Windows.{Ahead}
use Rattle.pcapng_io.specs.Rounds.{left_of}

-- the place in a buffer of a packet whose block begins at `from` of it
abbrev pub place_of : Packet → ℕ → ℕ → Place
place_of p from at = record { seconds = p.seconds; fraction = p.nanos; from = from + p.start; count = p.count; next_at = at + p.total }

-- the last of these places, where there is one
abbrev pub last_place : List Place → Place
last_place places = get_or places (length places - 1) (record { seconds = 0; fraction = 0; from = 0; count = 0; next_at = 0 })

-- the last of these places, of which there is one, has the time of the last packet
pub record IsTimed (known : Known) (places : List Place) : Type 0 where
  pub some : 0 < length places
  pub seconds : (last_place places).seconds ≡ known.seconds
  pub nanos : (last_place places).fraction ≡ known.nanos

-- Blocks that were taken off the front of a piece, which stands where `old` is seen: the records in them, how many bytes they
-- have, the number of the next packet, and how many bytes were captured.
pub record AreBlocks (old now : Seen) (piece : List ℕ) (last : Bool) (number most : ℕ) (records : List Rec) (used next total : ℕ) : Type 0 where
  pub follows : (bytes : List ℕ) → IsFront piece last (drop old.known.at bytes) → Precedes (left_of old) (left_of now) bytes number records next
  pub numbered : next ≡ number + length records
  pub few : next ≤ 2 ^ 31
  pub at : now.known.at ≡ old.known.at + used
  pub inside : used ≤ length piece
  pub count : length records ≤ 16384
  pub captured : total ≡ bytes_captured records
  pub within : bytes_captured (all_but_last records) < most
  pub placed : All (λ r. r.next_at ≤ now.known.at) records
  pub sizes : All (λ r. length r.bytes ≤ 262144) records
  pub link : now.known.link ≡ old.known.link
  pub sound : IsSoundSeen now

-- the packets have ended in this way
abbrev pub Ended : Seen → Seen → List ℕ → Bool → ℕ → Option Ending → Type 0
Ended old now piece last next ending = (bytes : List ℕ) → IsFront piece last (drop old.known.at bytes) → IsEnding (left_of now) bytes next ending

-- more has to be read before the front says what stands there, and the next packet ends behind the front
pub record IsOpen (seen : Seen) (first : List ℕ) (last : Bool) (number : ℕ) : Type 0 where
  pub said : front_in seen first last number ≡ front.More
  pub more : last ≡ false
  pub near : seen.known.at ≤ 2 ^ 62
  pub short : length first < 2 ^ 32
  pub before : (left : List ℕ) (r : Rec) (behind : Seen) → IsStart first left → next_in seen left number ≡ Ok (Gives r behind)
      → seen.known.at + length first < r.next_at

-- a round, by the bytes that its records stand in
abbrev pub round_of : List ℕ → List Place → Taken → Round
round_of bytes places taken = record { records = map (placed bytes) places; number = taken.number; ending = taken.ending }

-- The packets of a file that were found in these bytes are the next ones, and what is behind them stands there too.
abbrev pub IsFound : Option Contents → List ℕ → Seen → Seen → List ℕ → List ℕ → List Place → ℕ → Taken → Type 0
IsFound held name old now ahead bytes places number taken = Told held (λ m. IsStart ahead (drop old.known.at (content m name)) →
    GoesOn (λ all. IsStart (drop taken.used bytes) (drop now.known.at all)) (left_of old) (left_of now) (content m name) number (round_of bytes places taken))

-- where a read failed, it was one of the next packet
abbrev pub FindReads : Result Taken OutOfMemory → List ℕ → Seen → List Interface → List ℕ → Readable → Readable → Type 0
FindReads (Ok taken) name old interfaces ahead before after = OnlyReads (is_cut taken.ending) name
    (IsInNext name (λ all. IsStart ahead (drop old.known.at all)) (left_of (seen_by taken.known interfaces)) taken.known.at before.held taken.number)
    before after
FindReads (Err _) name old interfaces ahead before after = OnlyReads false name (λ _. Unit {0}) before after

-- What is known when the packets behind `ahead` are looked for, which stands where `old` is seen: the window is the front of what is left, and
-- only blocks without packets were passed.
pub record IsSearch (held : Option Contents) (name : List ℕ) (old now : Seen) (ahead : List ℕ) (window : Ahead) (number : ℕ) : Type 0 where
  pub passes : Told held (λ m. IsStart ahead (drop old.known.at (content m name)) → IsFront window.bytes window.last (drop now.known.at (content m name)))
  pub follows : Told held (λ m. IsStart ahead (drop old.known.at (content m name)) → Precedes (left_of old) (left_of now) (content m name) number [] number)
  pub forward : old.known.at ≤ now.known.at
  pub link : now.known.link ≡ old.known.link
  pub sound : IsSoundSeen now

-- packets that were found, or how they ended, told or not
pub record IsRound (old now : Seen) (bytes : List ℕ) (places : List Place) (number most : ℕ) (taken : Taken) : Type 0 where
  pub count : IsCount number most (round_of bytes places taken)
  pub placed : IsPlaced old.known.at now.known.at (round_of bytes places taken)
  pub within : All (IsWithin bytes) places
  pub used : taken.used ≤ length bytes
  pub link : now.known.link ≡ old.known.link
  pub sound : IsSoundSeen now

-- what a long block came to, whose front these bytes were
abbrev pub IsLongTaken : Option Contents → List ℕ → Seen → List Interface → List ℕ → Ahead → List Place → ℕ → ℕ → Long → Type 0
IsLongTaken held name old interfaces ahead window places number most (long.Passed known) =
    IsSearch held name old (seen_by known interfaces) ahead window number × (places ≡ []) × (old.known.at + length ahead < known.at)
IsLongTaken held name old interfaces ahead window places number most (long.Taken taken) =
    IsFound held name old (seen_by taken.known interfaces) ahead window.bytes places number taken
    × IsRound old (seen_by taken.known interfaces) window.bytes places number most taken

-- where it ends the packets, a refusal is one of a record
abbrev pub EndsLong : Long → Type 0
EndsLong (long.Passed known) = Unit {0}
EndsLong (long.Taken taken) = EndsInRecords taken.ending

abbrev pub LongReads : Result Long OutOfMemory → List ℕ → Seen → List Interface → List ℕ → Readable → Readable → Type 0
LongReads (Ok (long.Passed known)) name old interfaces ahead before after = OnlyReads false name (λ _. Unit {0}) before after
LongReads (Ok (long.Taken taken)) name old interfaces ahead before after = FindReads (Ok taken) name old interfaces ahead before after
LongReads (Err e) name old interfaces ahead before after = OnlyReads false name (λ _. Unit {0}) before after
