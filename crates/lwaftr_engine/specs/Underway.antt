-- Rounds under way: what was judged and is not written yet, and the round that was read and is not judged yet.
use Rattle.std.specs.Prelude.{All, IfOk, List, None, Option, Result, Some, drop, length, string_bytes, ℕ, [], ◌++◌, ◌+◌, ◌<◌, ◌^◌, ◌≡◌, ◌≤◌, ◌⊎◌}
use Rattle.lwaftr_engine.specs.Words.{AreCompiled, Bucket, Contents, Course, EndsInRecords, Entry, Fault, Form, GoesOn, HasAsked, HasOutcomes, IsCourseOf}
use Rattle.lwaftr_engine.specs.Words.{IsLimited, IsPlaced, IsRendered, IsSettled, Moves, NoneIsDue, Outcome, Part, Pending, Progress, Readable, Rec, Rises}
use Rattle.lwaftr_engine.specs.Words.{Rose, Round, Router, Shift, Staged, Stands, Told, Totals, between, content, entries_of, has_failed, is_cut, items_in}
use Rattle.lwaftr_engine.specs.Words.{lines_in, load_lines, no_totals, packets_in, rate_of, round_log, Step}
use Rattle.capture_io.specs.declared.rounds.Ending.TheVariants as ending
use Rattle.lwaftr_engine.specs.Broken.{IsCutFrom}
use Rattle.lwaftr_engine.specs.Progress.{AddsTo, AreWritten, HasTaken, IsInRange, IsOnDuty, IsUpToDate, KeepsRest, ReadsOf, Setup, Spot, State, Stops, Suits}
use Rattle.lwaftr_engine.specs.Progress.{loads_of, state_of}
use Rattle.lwaftr_engine.specs.Runs.{all_asking}
use Rattle.lwaftr_engine.specs.Worlds.{Halves}
use Rattle.lwaftr_engine.specs.Writing.{Did, DidFront}

-- what is not written yet
abbrev pub steps_of : Pending → List Step
steps_of p = round_log (string_bytes p.versions) (packets_in p.rendered) (lines_in p.rendered)

-- what the stage says of the round's records
pub record IsStaged (before after : Staged) (records : List Rec) (es : List Entry) : Type 0 where
  pub entries : (taken : List Rec) → Stands before taken → entries_of before.form (taken ++ records) ≡ entries_of before.form taken ++ es
  pub stands : (taken : List Rec) → Stands before taken → Stands after (taken ++ records)
  pub count : length es ≡ length records
  pub form : after.form ≡ before.form

-- what the limit on errors and the rendering say of the round
pub record AreRendered (x : Setup) (start : ℕ) (records : List Rec) (es : List Entry) (os : List Outcome) (limit now : Option Bucket) (before after : Totals)
    (parts : List Part) : Type 0 where
  pub rendered : (c : Course) (taken : List Rec) (front : List Entry) → length taken ≡ start → IsCourseOf c x.form taken records front es os limit →
      IsLimited (rate_of limit) x.form (taken ++ records) (front ++ es) c → IsRendered c x.written start records es before after parts
  pub asked : (c : Course) (taken : List Rec) (front : List Entry) → length taken ≡ start → IsCourseOf c x.form taken records front es os limit →
      HasAsked x.form (taken ++ records) (front ++ es) c now

-- the new lines of tables
pub record AreNewLines (x : Setup) (points now news : List ℕ) (from to : ℕ) (lines : List ℕ) : Type 0 where
  pub points_are : now ≡ points ++ news
  pub forward : from ≤ to
  pub lines_are : (later : List ℕ) → lines ≡ load_lines (now ++ later) (between from to (loads_of x))
  pub none_due : NoneIsDue now (drop to x.slots)

-- a round was judged, and this is what it writes
pub record HasJudged (x : Setup) (p q : State) (records : List Rec) (made : Pending) : Type 0 where
  pub news : List ℕ
  pub entries : List Entry
  pub outcomes : List Outcome
  pub numbered : q.progress.number ≡ p.progress.number + length records
  pub staged : IsStaged p.progress.stage q.progress.stage records entries
  pub outcomes_count : length outcomes ≡ length entries
  pub versions : All (λ o. o.version ≤ length q.points) outcomes
  pub reads : p.reads + all_asking (items_in entries) ≤ q.reads
  pub rate : rate_of p.progress.limit ≡ x.run.errors
  pub rendered : AreRendered x p.progress.number records entries outcomes p.progress.limit q.progress.limit p.progress.totals q.progress.totals made.rendered
  pub new_lines : AreNewLines x p.points q.points news p.progress.printed q.progress.printed (string_bytes made.versions)
  pub have : (c : Course) → Suits p.plan q.draws c → HasOutcomes c p.progress.number entries outcomes

-- Since the outputs were opened these records were judged; what the last of them write is not in the outputs yet.
pub record IsPending (x : Setup) (s : State) (steps : List Step) (opened now : Contents) (records : List Rec) : Type 0 where
  pub whole : (next : Contents) → Did x.run steps now next → AreWritten x opened next s records
  pub part : (next : Contents) → DidFront x.run steps now next → IsCutFrom x s opened next records

-- what was read, and how the records stopped
pub record IsNext (name : List ℕ) (before now : Spot) (number : ℕ) (bytes : List ℕ) (round : Round) (last : Option (List ℕ × ℕ)) : Type 0 where
  pub goes : GoesOn now.stood before.left now.left bytes number round
  pub stopped : Stops name now bytes round.number round.ending last

-- a round was read behind so many records, and a read failed in it
pub record IsCutNext (name : List ℕ) (before now : Spot) (number : ℕ) (bytes : List ℕ) (last : Option (List ℕ × ℕ)) : Type 0 where
  pub round : Round
  pub cut : round.ending ≡ Some ending.ReadFault
  pub numbered : round.number ≡ number + length round.records
  pub placed : IsPlaced before.at now.at round
  pub next : before.stood bytes → IsNext name before now number bytes round last

-- no read failed, or one did in the round that was read
abbrev pub ReadsPast : List ℕ → Spot → Spot → ℕ → List ℕ → Readable → Readable → Type 0
ReadsPast name before now number bytes a b = (b.lost ≡ a.lost) ⊎ (Rose a.lost b.lost × IsCutNext name before now number bytes b.last)

-- some records were judged, the last of them are not written, and the next round is read
pub record IsUnderWay (x : Setup) (s : State) (steps : List Step) (first reader : Spot) (round : Round) (last : Option (List ℕ × ℕ)) (bytes : List ℕ)
    (opened now : Contents) : Type 0 where
  pub records : List Rec
  pub pending : IsPending x s steps opened now records
  pub taken : HasTaken x.run.input first reader bytes (records ++ round.records) round.number round.ending last

abbrev pub StandsBetween : Setup → State → List Step → Spot → Spot → Round → Option (List ℕ × ℕ) → List ℕ → Contents → Contents → Type 0
StandsBetween x s steps first reader round last bytes opened now = first.stood bytes → IsUnderWay x s steps first reader round last bytes opened now

-- the round that is judged next
pub record IsInHand (number : ℕ) (round : Round) : Type 0 where
  pub numbered : round.number ≡ number + length round.records
  pub most : round.number ≤ 2 ^ 31
  pub few : length round.records ≤ 16384
  pub some : round.ending ≡ None → 0 < length round.records
  pub in_records : EndsInRecords round.ending

-- how far a run has come before its first record
pub record IsFirst (form : Form) (errors : Option ℕ) (p : Progress) : Type 0 where
  pub stands : Stands p.stage []
  pub stage_form : p.stage.form ≡ form
  pub staged : p.stage.number ≡ 0
  pub number : p.number ≡ 0
  pub totals : p.totals ≡ no_totals
  pub rate : rate_of p.limit ≡ errors
  pub asked : (form : Form) (c : Course) → HasAsked form [] [] c p.limit
  pub printed : p.printed ≡ 0

-- what the first round begins with
pub record IsAtStart (x : Setup) (r : Router) : Type 0 where
  pub loads : length x.slots ≡ length x.run.loads
  pub compiled : All AreCompiled r.shift.areas.plan.tables
  pub duty : IsOnDuty r.shift.areas.plan r.shift
  pub no_draws : r.shift.seat.known.actor.draws ≡ []
  pub no_points : r.shift.desk.known.points ≡ []
  pub first : IsFirst x.form x.run.errors r.progress

-- what the next round begins with, whatever is read for it
pub record CanGoOn (x : Setup) (shift : Shift) (p : Progress) : Type 0 where
  pub loads : length x.slots ≡ length x.run.loads
  pub compiled : All AreCompiled shift.areas.plan.tables
  pub duty : IsOnDuty shift.areas.plan shift
  pub drawn : length shift.seat.known.actor.draws ≡ p.number
  pub bounded : IsInRange x p
  pub up_to_date : IsUpToDate shift.areas.plan (length shift.seat.known.actor.draws) shift.desk.known.points

-- what judging needs
pub record CanJudge (x : Setup) (r : Router) (round : Round) : Type 0 where
  pub ready : CanGoOn x r.shift r.progress
  pub in_hand : IsInHand r.progress.number round

-- The workers and the desk, whatever came of a round: no more records were drawn than there are up to a number, and each table whose
-- window is open is in force.
pub record StaysOnDuty (before now : Shift) (number : ℕ) : Type 0 where
  pub areas : now.areas ≡ before.areas
  pub duty : IsOnDuty now.areas.plan now
  pub adds : AddsTo before now
  pub few : length now.seat.known.actor.draws ≤ number
  pub up_to_date : IsUpToDate now.areas.plan (length now.seat.known.actor.draws) now.desk.known.points

-- all records so far were drawn, and no table is due
pub record IsSettledAt (x : Setup) (r : Router) : Type 0 where
  pub bounded : IsInRange x r.progress
  pub drawn : length r.shift.seat.known.actor.draws ≡ r.progress.number
  pub settled : IsSettled r.shift.seat.known r.shift.desk.known

-- a round went well
pub record WentWell (x : Setup) (before now : Router) (round : Round) (made : Pending) : Type 0 where
  pub judged : HasJudged x (state_of before) (state_of now) round.records made
  pub after : IsSettledAt x now
  pub number : now.progress.number ≡ round.number

-- what was read behind so many records, once the files held this
pub record HasRead (x : Setup) (before now : Spot) (number : ℕ) (held : Option Contents) (last : Option (List ℕ × ℕ)) (round : Round) : Type 0 where
  pub in_hand : IsInHand number round
  pub placed : IsPlaced before.at now.at round
  pub told : Told held (λ inputs. before.stood (content inputs x.run.input) →
      IsNext x.run.input before now number (content inputs x.run.input) round last)

-- what a round wrote is in the outputs, and the next one was read
pub record HasPutAndRead (x : Setup) (u : List Step) (number : ℕ) (before now : Spot) (Ready : ℕ → Type 0) (a b : Halves) (round : Round) : Type 0 where
  pub wrote : Moves a.writing.held b.writing.held (Did x.run u)
  pub read : HasRead x before now number a.reading.held b.reading.last round
  pub ready : Ready round.number
  pub reads : ReadsOf (is_cut round.ending) x.run.input a.reading b.reading

-- What a round wrote is put into the outputs, and the next one is read. Where the call is ended by a fault, some of the first is
-- done, and a read of the capture may have failed.
pub record PutsAndReads (x : Setup) (u : List Step) (number : ℕ) (before now : Spot) (Ready : ℕ → Type 0) (a b : Halves)
    (r : Result Round Fault) : Type 0 where
  pub well : IfOk r (HasPutAndRead x u number before now Ready a b)
  pub part : Moves a.writing.held b.writing.held (DidFront x.run u)
  pub past : Told a.reading.held (λ inputs. ReadsPast x.run.input before now number (content inputs x.run.input) a.reading b.reading)
  pub rest : KeepsRest x.run a b
  pub spoiled : Rises (has_failed r) a.writing.spoiled b.writing.spoiled

-- it has nothing that is to be written
pub record IsNothing (p : Pending) : Type 0 where
  pub versions : string_bytes p.versions ≡ []
  pub packets : packets_in p.rendered ≡ []
  pub lines : lines_in p.rendered ≡ []
