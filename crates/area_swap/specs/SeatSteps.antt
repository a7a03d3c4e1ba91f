-- What each kind of step does to the seat that takes it, and tells it: of the step, the seat before, the word that it
-- found (`n`) and the seat after. No clause of a call says that what was read is a load of this call: these records do, with
-- src/plays.rt, and a reviewer has to read them.
--
-- Each kind of step keeps the rule, since the machine of swap_core takes a step or stands still; that the state it reaches is
-- sound is a law of swap_core. The lemmas of proofs/WorkerSteps, DeskSteps and SeatMoves show which step it is:
--   load of the version word, to know it         read_now: none
--   first look of a claim                        look_now: looked
--   add 1 to the claims on an area               enter_now: entered
--   second look of a claim                       confirm_now: confirmed; read_now if the version moved: none
--   subtract 1 from the claims                   leave_now: gone
--   load of a word of the held area              read_word_now: none
--   compare-exchange of the version word         draw_now: several_drawn; read_now if it lost: none
--   the desk's load of the version word          ready_now: ready; read_now: none
--   the desk's load of the claims                free_now: writing; claimed_now: none
--   load of the word behind words that stand     pass_now: one write for each word passed over
--   load of a word of the spare area             write_now: written, if the word stands there; other_now: none
--   store of a word of the spare area            write_now: written
--   add 2^32 to the version word                 publish_now: published
--   splitting a seat, and lending one            cuts: joined_by_newcomer
--   joining two seats                            merges: merged
use Rattle.std.specs.Prelude.{◌≡◌, ◌≢◌, ℕ, ◌+◌, ◌-◌, ◌%◌, ◌<◌, ◌≤◌, [], ◌∷◌, ◌++◌, length, slice_index}
use Rattle.atomic_table.specs.Table.{Me, Step}
use Rattle.swap_core.specs.Plans.{table, width, window}
use Rattle.swap_core.specs.States.{consecutive}
use Rattle.swap_core.specs.declared.actors.ActorState.TheVariants.{Idle, Looked, Asks, Holds}
use Rattle.swap_core.specs.declared.actors.DeskState.TheVariants.{Resting, Ready, Writing}
use Rattle.area_swap.specs.declared.board.View.{View}
use Rattle.area_swap.specs.Places.{row_place}
use Rattle.area_swap.specs.Views.{unpacked, acting, reading, taking, next_of, spare_of}
use Rattle.area_swap.specs.Rule.{Moment, Sees, SeesClaims}

abbrev pub Stepped : Type 0
Stepped = Step (Unit {0})

abbrev pub Seated : Type 0
Seated = Me (Unit {0}) View

-- a load of the version word that is no event of the machine
pub record Glanced (st : Stepped) (m : Seated) (n : ℕ) (m' : Seated) : Type 0 where
  pub after : m' ≡ (reading m.0 (unpacked n), m.1)
  pub sees : Sees m.0 (unpacked n)
  pub now : Moment m'.0

-- the first look of a claim
pub record LookedAt (st : Stepped) (m : Seated) (n : ℕ) (m' : Seated) : Type 0 where
  pub after : m' ≡ (acting (reading m.0 (unpacked n)) (Looked (unpacked n).version), m.1)
  pub sees : Sees m.0 (unpacked n)
  pub now : Moment m'.0

-- 1 was added to the claims on an area
pub record Entered (st : Stepped) (m : Seated) (n : ℕ) (m' : Seated) : Type 0 where
  pub version : ℕ
  pub looked : m.0.actor.state ≡ Looked version
  pub after : m' ≡ (acting m.0 (Asks (version % 2)), m.1)
  pub now : Moment m'.0

-- the second look of a claim
pub record Confirmed (st : Stepped) (m : Seated) (n : ℕ) (m' : Seated) : Type 0 where
  pub area : ℕ
  pub asked : m.0.actor.state ≡ Asks area
  pub held : (unpacked n).version % 2 ≡ area → m' ≡ (acting (reading m.0 (unpacked n)) (Holds area (unpacked n).version), m.1)
  pub moved : (unpacked n).version % 2 ≢ area → m' ≡ (reading m.0 (unpacked n), m.1)
  pub sees : Sees m.0 (unpacked n)
  pub now : Moment m'.0

-- 1 was taken from the claims on an area
pub record LeftIt (st : Stepped) (m : Seated) (n : ℕ) (m' : Seated) : Type 0 where
  pub after : m' ≡ (acting m.0 Idle, m.1)
  pub now : Moment m'.0

-- a load of an area's word by a seat that holds the area
pub record ReadOne (st : Stepped) (m : Seated) (n : ℕ) (m' : Seated) : Type 0 where
  pub after : m' ≡ (record m.0 { reads = m.0.reads + 1 }, m.1)
  pub area : ℕ
  pub version : ℕ
  pub held : m.0.actor.state ≡ Holds area version
  pub word : (j : ℕ) → j < length (table m.0.plan version) → st.word ≡ row_place (width m.0.plan) area + j
      → n ≡ slice_index (table m.0.plan version) j
  pub now : Moment m'.0

-- a compare-exchange of the version word, which counts more records where it finds the word that was read
pub record Drew (st : Stepped) (m : Seated) (n : ℕ) (m' : Seated) : Type 0 where
  pub taken : n ≡ st.first
      → m' ≡ (taking (reading m.0 (unpacked n)) (consecutive (unpacked n).records (st.second - st.first) (unpacked n).version), m.1)
  pub lost : n ≢ st.first → m' ≡ (reading m.0 (unpacked n), m.1)
  pub sees : Sees m.0 (unpacked n)
  pub now : Moment m'.0

-- the desk's load of the version word
pub record FoundDue (st : Stepped) (m : Seated) (n : ℕ) (m' : Seated) : Type 0 where
  pub none : length m.0.plan.tables ≤ (unpacked n).version + 1 → m' ≡ (reading m.0 (unpacked n), m.1)
  pub later : (unpacked n).version + 1 < length m.0.plan.tables
      → (unpacked n).records < (window m.0.plan ((unpacked n).version + 1)).earliest → m' ≡ (reading m.0 (unpacked n), m.1)
  pub ready : (unpacked n).version + 1 < length m.0.plan.tables
      → (window m.0.plan ((unpacked n).version + 1)).earliest ≤ (unpacked n).records
      → m' ≡ (record (reading m.0 (unpacked n)) { desk = Ready }, m.1)
  pub sees : Sees m.0 (unpacked n)
  pub now : Moment m'.0

-- the desk's load of the claims on the spare area
pub record ReadClaims (st : Stepped) (m : Seated) (n : ℕ) (m' : Seated) : Type 0 where
  pub free : n ≡ 0 → m' ≡ (record m.0 { counted = n; counts = m.0.counts + 1; desk = Writing 0 }, m.1)
  pub claimed : n ≢ 0 → m' ≡ (record m.0 { counted = n; counts = m.0.counts + 1 }, m.1)
  pub sees : SeesClaims m.0 n
  pub now : Moment m'.0

-- The desk's load of the word that follows so many of the next table's: all of them are in the spare area, those that it passes over
-- since they stand there already.
pub record Passed (st : Stepped) (m : Seated) (n : ℕ) (m' : Seated) : Type 0 where
  pub words : ℕ
  pub place : st.word ≡ row_place (width m.0.plan) (spare_of m.0) + words
  pub after : m' ≡ (record m.0 { desk = Writing words }, m.1)
  pub now : Moment m'.0

-- the desk's load of a word of the spare area: where it is the next table's already, it counts as written
pub record FoundWord (st : Stepped) (m : Seated) (n : ℕ) (m' : Seated) : Type 0 where
  pub words : ℕ
  pub was : m.0.desk ≡ Writing words
  pub stands : n ≡ slice_index (next_of m.0) words → m' ≡ (record m.0 { desk = Writing (words + 1) }, m.1)
  pub differs : n ≢ slice_index (next_of m.0) words → m' ≡ m
  pub now : Moment m'.0

-- a word of the next table was stored in the spare area
pub record Wrote (st : Stepped) (m : Seated) (n : ℕ) (m' : Seated) : Type 0 where
  pub words : ℕ
  pub was : m.0.desk ≡ Writing words
  pub after : m' ≡ (record m.0 { desk = Writing (words + 1) }, m.1)
  pub now : Moment m'.0

-- 1 was added to the version
pub record Published (st : Stepped) (m : Seated) (n : ℕ) (m' : Seated) : Type 0 where
  pub after : m' ≡ (record m.0 { desk = Resting; points = m.0.points ++ (unpacked n).records ∷ [] }, m.1)
  pub sees : Sees m.0 (unpacked n)
  pub there : length m.0.points + 1 < length m.0.plan.tables
  pub in_window : ((window m.0.plan (length m.0.points + 1)).earliest ≤ (unpacked n).records)
      × ((unpacked n).records ≤ (window m.0.plan (length m.0.points + 1)).latest)
  pub rises : (k : ℕ) → k < length m.0.points → slice_index m.0.points k ≤ (unpacked n).records
  pub now : Moment m'.0
