-- A round: what was read, what the stage says of it, and what it writes.
use Rattle.std.specs.Prelude.{All, List, None, Option, [], drop, length, ℕ, ◌++◌, ◌+◌, ◌<◌, ◌^◌, ◌∷◌, ◌≡◌, ◌≤◌}
use Rattle.run_turns.specs.Words.{Bucket, Contents, Course, EndsInRecords, Entry, GoesOn, HasAsked, HasOutcomes, IsCourseOf, IsLimited, IsPlaced}
use Rattle.run_turns.specs.Words.{IsRendered, NoneIsDue, Outcome, Part, Rec, Round, Staged, Stands, Told, Totals, between, content, entries_of}
use Rattle.run_turns.specs.Words.{items_in, load_lines, rate_of}
use Rattle.run_output.specs.Laws.{LimitsBegin, LoadLinesJoin, RoundsJoin}
use Rattle.run_output.specs.Passing.{PassesAreWhole}
use Rattle.run_turns.specs.Progress.{State, Stops, Suits}
use Rattle.run_turns.specs.Setups.{Setup, Spot, all_asking, loads_of}

-- what the stage says of the round's records
pub record IsStaged (before after : Staged) (records : List Rec) (es : List Entry) : Type 0 where
  pub entries : (taken : List Rec) → Stands before taken → entries_of before.form (taken ++ records) ≡ entries_of before.form taken ++ es
  pub stands : (taken : List Rec) → Stands before taken → Stands after (taken ++ records)
  pub count : length es ≡ length records
  pub form : after.form ≡ before.form
  pub number : after.number ≡ before.number + length records

-- what the limit on errors and the rendering say of the round
pub record AreRendered (x : Setup) (start : ℕ) (records : List Rec) (es : List Entry) (os : List Outcome) (limit now : Option Bucket) (before after : Totals)
    (part : Part) : Type 0 where
  pub rendered : (c : Course) (taken : List Rec) (front : List Entry) → length taken ≡ start → IsCourseOf c x.form taken records front es os limit →
      IsLimited (rate_of limit) x.form (taken ++ records) (front ++ es) c → IsRendered c x.written start records es before after (part ∷ [])
  pub asked : (c : Course) (taken : List Rec) (front : List Entry) → length taken ≡ start → IsCourseOf c x.form taken records front es os limit →
      HasAsked x.form (taken ++ records) (front ++ es) c now

-- lines of tables: those of the loads from one place on that are told by these points, whichever points come later
pub record TellsLoads (x : Setup) (points : List ℕ) (from to : ℕ) (lines : List ℕ) : Type 0 where
  pub forward : from ≤ to
  pub inside : to ≤ length x.slots
  pub lines_are : (later : List ℕ) → lines ≡ load_lines (points ++ later) (between from to (loads_of x))
  pub none_due : NoneIsDue points (drop to x.slots)

-- the new lines of tables
pub record AreNewLines (x : Setup) (points now news : List ℕ) (from to : ℕ) (lines : List ℕ) : Type 0 where
  pub points_are : now ≡ points ++ news
  pub tells : TellsLoads x now from to lines

-- a round was judged, and this is what it writes
pub record HasJudged (x : Setup) (p q : State) (records : List Rec) (versions : List ℕ) (part : Part) : Type 0 where
  pub news : List ℕ
  pub entries : List Entry
  pub outcomes : List Outcome
  pub numbered : q.progress.number ≡ p.progress.number + length records
  pub staged : IsStaged p.progress.stage q.progress.stage records entries
  pub outcomes_count : length outcomes ≡ length entries
  pub versions_known : All (λ o. o.version ≤ length q.points) outcomes
  pub reads : p.reads + all_asking (items_in entries) ≤ q.reads
  pub rate : rate_of p.progress.limit ≡ x.run.errors
  pub rendered : AreRendered x p.progress.number records entries outcomes p.progress.limit q.progress.limit p.progress.totals q.progress.totals part
  pub new_lines : AreNewLines x p.points q.points news p.progress.printed q.progress.printed versions
  pub have : (c : Course) → Suits p.plan q.draws c → HasOutcomes c p.progress.number entries outcomes

-- what the crates below say of every round
pub record RoundLaws : Type 0 where
  pub begins : LimitsBegin
  pub joins : RoundsJoin
  pub lines : LoadLinesJoin
  pub whole : PassesAreWhole

-- what was read, and how the records stopped
pub record IsNext (name : List ℕ) (before now : Spot) (number : ℕ) (bytes : List ℕ) (round : Round) (last : Option (List ℕ × ℕ)) : Type 0 where
  pub goes : GoesOn now.stood before.left now.left bytes number round
  pub stopped : Stops name now bytes round.number round.ending last

-- the round that is judged next
pub record IsInHand (number : ℕ) (round : Round) : Type 0 where
  pub numbered : round.number ≡ number + length round.records
  pub most : round.number ≤ 2 ^ 31
  pub few : length round.records ≤ 16384
  pub some : round.ending ≡ None → 0 < length round.records
  pub in_records : EndsInRecords round.ending

-- what was read behind so many records, if the files held this
pub record HasRead (x : Setup) (before now : Spot) (number : ℕ) (held : Option Contents) (last : Option (List ℕ × ℕ)) (round : Round) : Type 0 where
  pub in_hand : IsInHand number round
  pub placed : IsPlaced before.at now.at round
  pub told : Told held (λ inputs. before.stood (content inputs x.run.input) →
      IsNext x.run.input before now number (content inputs x.run.input) round last)
