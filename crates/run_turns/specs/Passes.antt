-- What a judge and the sink make of a round.
use Rattle.std.specs.Prelude.{Bool, Err, List, None, Option, Some, [], false, length, true, ℕ, ◌∷◌, ◌≡◌, ◌≢◌, ◌≤◌, ◌⊎◌}
use Rattle.run_turns.specs.Words.{AreasValue, Bucket, DrawnRound, Fault, HasCounted, HasPassed, HeldValue, IsWithin, Logged, Logs, Part, StagedValue}
use Rattle.run_turns.specs.Words.{Totals, WrittenFiles, rate_of, round_log}
use Rattle.run_output.specs.Rendering.{lines_in, packets_in}
use Rattle.aftr_io.specs.declared.outside.Fault.TheVariants as fault
use Rattle.run_turns.specs.declared.turn.TurnSeat.{TurnSeat}
use Rattle.run_turns.specs.declared.turn.TurnSeat.TheVariants as seat
use Rattle.run_turns.specs.Setups.{Setup, outputs_of}
use Rattle.run_turns.specs.Turns.{IsFree, reads_of, share_of}
use Rattle.worker_gate.specs.Judging.{HasRead}

-- a round in its buffer, for the judges and the sink
pub record Judged : Type 0 where
  pub start : ℕ
  pub round : StagedValue
  pub seat : TurnSeat
  pub versions : List ℕ
  pub part : Part
  pub refused : Bool

abbrev pub judged : ℕ → StagedValue → TurnSeat → List ℕ → Part → Bool → Judged
judged start round place versions part refused =
    record { start = start; round = round; seat = place; versions = versions; part = part; refused = refused }

module _ (x : Setup) where
  -- a round whose records were drawn under a version that is held was judged, and written into its part
  pub record IsPassed (limit asked : Option Bucket) (start : ℕ) (round : StagedValue) (held : HeldValue) (part : Part) (reads : ℕ) : Type 0 where
    pub drawn : DrawnRound
    pub its_form : drawn.form ≡ x.form
    pub its_written : drawn.written ≡ x.written
    pub its_start : drawn.start ≡ start
    pub its_records : drawn.records.now ≡ round.records
    pub its_items : drawn.items.now ≡ round.entries
    pub before : HeldValue
    pub after : HeldValue
    pub read : HasRead held before
    pub passed : HasPassed drawn before after limit asked part
    pub within : IsWithin part.counted (length round.records)
    pub counted : after.known.reads ≤ reads
    pub rate : rate_of asked ≡ rate_of limit

  -- by its seat: nothing is done if it holds nothing
  abbrev pub PassesBy : TurnSeat → Option Bucket → Option Bucket → Judged → Judged → Type 0
  PassesBy (seat.Free free) limit asked t u = (asked ≡ limit) × ((u.refused ≡ t.refused) × ((u.part ≡ t.part) × (reads_of u.seat ≡ free.known.reads)))
  PassesBy (seat.Held held) limit asked t u =
      (held.known.reads ≤ reads_of u.seat)
      × (u.refused ≡ false → (t.refused ≡ false) × IsPassed limit asked t.start t.round held u.part (reads_of u.seat))
  PassesBy seat.Away limit asked t u = (asked ≡ limit) × ((u.refused ≡ t.refused) × ((u.part ≡ t.part) × (reads_of u.seat ≡ 0)))

  -- The round was judged, and its seat holds nothing now.
  pub record HasPassedTurn (areas : AreasValue) (limit asked : Option Bucket) (t u : Judged) : Type 0 where
    pub start : u.start ≡ t.start
    pub round : u.round ≡ t.round
    pub versions : u.versions ≡ t.versions
    pub free : IsFree areas u.seat
    pub share : share_of u.seat ≡ share_of t.seat
    pub refuses : t.refused ≡ true → u.refused ≡ true
    pub by_seat : PassesBy t.seat limit asked t u

-- how far the sink has come
pub record Putting : Type 0 where
  pub files : WrittenFiles
  pub totals : Totals
  pub limit : Option Bucket

abbrev pub putting : WrittenFiles → Totals → Option Bucket → Putting
putting files totals limit = record { files = files; totals = totals; limit = limit }

module _ (x : Setup) where
  -- nothing was put
  pub record PutsNothing (a b : Putting) : Type 0 where
    pub files : b.files ≡ a.files
    pub totals : b.totals ≡ a.totals

  -- the round is in the outputs
  pub record PutsRound (a b : Putting) (u : Judged) : Type 0 where
    pub log : Logged (outputs_of x.run) false (round_log u.versions (packets_in (u.part ∷ [])) (lines_in (u.part ∷ []))) a.files b.files
    pub totals : HasCounted u.part a.totals b.totals

  abbrev pub PutsBy : Option Fault → Putting → Putting → Judged → Type 0
  PutsBy None a b u =
      (u.refused ≡ false) × (((u.round.records ≡ []) × PutsNothing a b) ⊎ ((u.round.records ≢ []) × PutsRound a b u))
  PutsBy (Some why) a b u =
      ((why ≡ fault.OutOfMemory) × (b.files ≡ a.files))
      ⊎ ((u.refused ≡ false) × ((u.round.records ≢ [])
      × (HasCounted u.part a.totals b.totals
      × Logs (outputs_of x.run) (Err why) (round_log u.versions (packets_in (u.part ∷ [])) (lines_in (u.part ∷ []))) a.files b.files)))

  -- The sink judges what no judge has judged, and puts the round; then the buffer is `back`.
  pub record HasPut (areas : AreasValue) (a b : Putting) (t : Judged) (back : TurnSeat) (answer : Option Fault) : Type 0 where
    pub passed : Judged
    pub judged : HasPassedTurn x areas a.limit b.limit t passed
    pub seat : back ≡ passed.seat
    pub put : PutsBy answer a b passed

module _ (x : Setup) (areas : AreasValue) where
  -- a worker judges the round, or leaves it to the sink, which asks the limit on errors
  abbrev pub JudgesTurn : Bool → Judged → Judged → Type 0
  JudgesTurn false t u = (asked : Option Bucket) × HasPassedTurn x areas None asked t u
  JudgesTurn true t u = u ≡ t
