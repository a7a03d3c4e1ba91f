-- What the source makes of a buffer that it fills.
use Rattle.std.specs.Prelude.{All, Bool, List, None, Option, [], false, length, true, ℕ, ◌++◌, ◌+◌, ◌<◌, ◌^◌, ◌≡◌, ◌≢◌, ◌≤◌, ◌⊎◌}
use Rattle.run_turns.specs.Words.{AreasValue, Ending, FreeValue, HeldValue, KeepsPoints, Readable, Rec, Round, Staged, StagedValue, consecutive}
use Rattle.run_turns.specs.Words.{is_cut}
use Rattle.run_turns.specs.declared.dealing.Dealer.{Dealer}
use Rattle.run_turns.specs.declared.turn.TurnSeat.{TurnSeat}
use Rattle.run_turns.specs.declared.turn.TurnSeat.TheVariants as seat
use Rattle.run_turns.specs.Dealing.{CanDeal}
use Rattle.run_turns.specs.Rounds.{AreNewLines, HasRead, IsStaged}
use Rattle.run_turns.specs.Setups.{ReadsOf, Setup, Spot}
use Rattle.run_turns.specs.Turns.{HoldsNothing, reads_in, reads_of, share_of, shares_in}

-- where the reading stands: the files, the reader, what was read ahead, and how the records ended
pub record Standing (C : Type 0) : Type 0 where
  pub files : Readable
  pub reader : C
  pub ahead : List Rec
  pub ending : Option Ending

abbrev pub standing : {C : Type 0} → Readable → C → List Rec → Option Ending → Standing C
standing files reader ahead ending = record { files = files; reader = reader; ahead = ahead; ending = ending }

-- how far the source has come
pub record Taking (C : Type 0) : Type 0 where
  pub at : Standing C
  pub dealer : Dealer
  pub seats : List FreeValue
  pub stage : Staged
  pub number : ℕ
  pub printed : ℕ
  pub refused : Bool

abbrev pub taking : {C : Type 0} → Standing C → Dealer → List FreeValue → Staged → ℕ → ℕ → Bool → Taking C
taking at dealer seats stage number printed refused =
    record { at = at; dealer = dealer; seats = seats; stage = stage; number = number; printed = printed; refused = refused }

-- a round as the source leaves it in its buffer
pub record Filled : Type 0 where
  pub start : ℕ
  pub round : StagedValue
  pub seat : TurnSeat
  pub versions : List ℕ
  pub refused : Bool

abbrev pub filled : ℕ → StagedValue → TurnSeat → List ℕ → Bool → Filled
filled start round place versions refused = record { start = start; round = round; seat = place; versions = versions; refused = refused }

module _ {C : Type 0} (x : Setup) where
  -- The source can go on: what it has drawn, staged and told of is what it has read but for what stands ahead.
  pub record CanGoOn (Ready : C → ℕ → Type 0) (s : Taking C) : Type 0 where
    pub drawn : length s.dealer.seat.known.actor.draws ≡ s.number
    pub ready : Ready s.at.reader (s.number + length s.at.ahead)
    pub most : s.number + length s.at.ahead ≤ 2 ^ 31
    pub staged : s.stage.number ≡ s.number
    pub printed : s.printed ≤ length x.slots

  -- it fills buffers, unless memory was refused
  pub record CanFill (areas : AreasValue) (Ready : C → ℕ → Type 0) (s : Taking C) : Type 0 where
    pub its_areas : s.dealer.areas.now ≡ areas
    pub dealer : CanDeal (length s.dealer.seat.known.actor.draws) s.dealer
    pub seats : All (λ (f : FreeValue). f.areas ≡ areas) s.seats
    pub loads : length x.slots ≡ length x.run.loads
    pub goes_on : s.refused ≡ false → CanGoOn Ready s

module _ {C : Type 0} (x : Setup) (place : C → Spot) where
  -- the records stood ahead
  pub record StoodAhead (before now : Standing C) (records : List Rec) : Type 0 where
    pub records_are : records ≡ before.ahead
    pub some : before.ahead ≡ [] → before.ending ≢ None
    pub same_files : now.files ≡ before.files
    pub same_reader : now.reader ≡ before.reader
    pub same_ending : now.ending ≡ before.ending

  -- they were read
  pub record WereRead (number : ℕ) (before now : Standing C) (records : List Rec) : Type 0 where
    pub none : before.ahead ≡ []
    pub not_ended : before.ending ≡ None
    pub round : Round
    pub records_are : records ≡ round.records
    pub ending_is : now.ending ≡ round.ending
    pub read : HasRead x (place before.reader) (place now.reader) number before.files.held now.files.last round
    pub reads : ReadsOf (is_cut round.ending) x.run.input before.files now.files

  abbrev pub HasFetched : ℕ → Standing C → Standing C → List Rec → Type 0
  HasFetched number before now records = StoodAhead before now records ⊎ WereRead number before now records

  -- no record was left: the records have ended
  pub record HasEnded (a b : Taking C) (room turn : Filled) (more : Bool) : Type 0 where
    pub none : turn.round.records ≡ []
    pub fetched : HasFetched a.number a.at b.at []
    pub ahead : b.at.ahead ≡ []
    pub ended : b.at.ending ≢ None
    pub dealer : b.dealer ≡ a.dealer
    pub stage : b.stage ≡ a.stage
    pub number : b.number ≡ a.number
    pub printed : b.printed ≡ a.printed
    pub nothing : HoldsNothing turn.seat
    pub ends : more ≡ false

  -- Records were drawn and staged, and are in the buffer with a seat that holds their version.
  pub record HasDrawn (a b : Taking C) (room turn : Filled) (more : Bool) : Type 0 where
    pub records : List Rec
    pub fetched : HasFetched a.number a.at b.at records
    pub split : records ≡ turn.round.records ++ b.at.ahead
    pub some : turn.round.records ≢ []
    pub start : turn.start ≡ a.number
    pub number : b.number ≡ a.number + length turn.round.records
    pub staged : IsStaged a.stage b.stage turn.round.records turn.round.entries
    pub held : HeldValue
    pub seat : turn.seat ≡ seat.Held held
    pub its_areas : held.areas ≡ a.dealer.areas.now
    pub same_areas : b.dealer.areas ≡ a.dealer.areas
    pub draws : b.dealer.seat.known.actor.draws ≡ a.dealer.seat.known.actor.draws ++ consecutive a.number (length turn.round.records) held.version
    pub version : held.version ≤ length b.dealer.desk.known.points
    pub there : held.version < length a.dealer.areas.now.plan.tables
    pub most : b.number + length b.at.ahead ≤ 2 ^ 31
    pub news : List ℕ
    pub new_lines : AreNewLines x a.dealer.desk.known.points b.dealer.desk.known.points news a.printed b.printed turn.versions
    pub ends : more ≡ false → (b.at.ahead ≡ []) × (b.at.ending ≢ None)

  -- memory was refused
  pub record IsCutShort (a b : Taking C) (more : Bool) : Type 0 where
    pub refused : b.refused ≡ true
    pub ends : more ≡ false
    pub same_areas : b.dealer.areas ≡ a.dealer.areas
    pub drawn : List (ℕ × ℕ)
    pub draws : b.dealer.seat.known.actor.draws ≡ a.dealer.seat.known.actor.draws ++ drawn
    pub points : KeepsPoints a.dealer.desk.known b.dealer.desk.known
    pub taken : ((ReadsOf false x.run.input a.at.files b.at.files × (b.at.ending ≡ a.at.ending)) × (drawn ≡ []))
        ⊎ ((a.refused ≡ false) × ((records : List Rec) × (HasFetched a.number a.at b.at records × (length drawn ≤ length records))))

  -- By what the buffer says. A buffer without a seat gets one; no share and no count of reads is lost.
  pub record HasFilled (a b : Taking C) (room turn : Filled) (more : Bool) : Type 0 where
    pub share : share_of turn.seat + shares_in b.seats ≡ share_of room.seat + shares_in a.seats
    pub reads : reads_of turn.seat + reads_in b.seats ≡ reads_of room.seat + reads_in a.seats
    pub seat_share : b.dealer.seat.known.share ≡ a.dealer.seat.known.share
    pub seat_reads : b.dealer.seat.known.reads ≡ a.dealer.seat.known.reads
    pub whole : turn.refused ≡ false → (a.refused ≡ false) × ((b.refused ≡ false) × (HasEnded a b room turn more ⊎ HasDrawn a b room turn more))
    pub cut : turn.refused ≡ true → IsCutShort a b more
