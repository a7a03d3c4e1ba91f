-- What each answer says of the seat before the call and after it.
use Rattle.std.specs.Prelude.{◌≡◌, ◌≢◌, ℕ, ◌+◌, ◌-◌, ◌%◌, ◌<◌, ◌≤◌, min, [], ◌∷◌, ◌++◌, length, slice_index, All}
use Rattle.swap_core.specs.Plans.{Tables, IsTableSize, window, limit}
use Rattle.swap_core.specs.States.{consecutive}
use Rattle.swap_core.specs.declared.actors.ActorState.TheVariants.{Holds}
use Rattle.swap_core.specs.declared.actors.DeskState.TheVariants.{Resting, Ready, Writing}
use Rattle.area_swap.specs.declared.answers.Claim.{Claim}
use Rattle.area_swap.specs.declared.answers.Claim.TheVariants as claim
use Rattle.area_swap.specs.declared.answers.Draw.{Draw}
use Rattle.area_swap.specs.declared.answers.Draw.TheVariants as draw
use Rattle.area_swap.specs.declared.answers.DrawRun.{DrawRun}
use Rattle.area_swap.specs.declared.answers.DrawRun.TheVariants as run
use Rattle.area_swap.specs.declared.answers.Due.{Due}
use Rattle.area_swap.specs.declared.answers.Due.TheVariants as due
use Rattle.area_swap.specs.declared.answers.Quiet.{Quiet}
use Rattle.area_swap.specs.declared.answers.Quiet.TheVariants as quiet
use Rattle.area_swap.specs.declared.board.View.{View}
use Rattle.area_swap.specs.Views.{packed, IsUpTo, acting, reading, asking, taking, held_table, held_version}
use Rattle.area_swap.specs.Values.{HoldsOne}
use Rattle.area_swap.specs.Rule.{IsDrawnBy, Sees, SeesClaims}

-- the version word was read twice: how the seat's readings were before, between and after
abbrev pub read_twice : View → View → View
read_twice v w = record v { seen = w.seen; prior = w.prior; looks = v.looks + 2 }

-- The seat holds this version, which the second reading gave and which stands in the area of the first.
pub record HoldsNow (version : ℕ) (v w : View) : Type 0 where
  pub after : w ≡ acting (read_twice v w) (Holds (version % 2) version)
  pub second : w.seen.version ≡ version
  pub sees_first : Sees v w.prior
  pub sees_second : Sees (asking v w.prior) w.seen
  pub same_area : w.prior.version % 2 ≡ version % 2
  pub earlier : IsUpTo v.seen w.prior
  pub later : IsUpTo w.prior w.seen
  -- Nobody goes back to an older version than that of a draw of his own.
  pub drawn : All (IsDrawnBy w.seen) v.actor.draws
  pub there : version < length v.plan.tables
  pub holds : HoldsOne w
  pub held : held_version w ≡ version
  pub size : IsTableSize (held_table w)

-- The versions of the two readings stand in different areas. The seat claims nothing.
pub record HasMoved (before now : ℕ) (v w : View) : Type 0 where
  pub after : w ≡ read_twice v w
  pub first : w.prior.version ≡ before
  pub second : w.seen.version ≡ now
  pub sees_first : Sees v w.prior
  pub sees_second : Sees (asking v w.prior) w.seen
  pub other_area : before % 2 ≢ now % 2
  pub rises : before < now
  pub earlier : IsUpTo v.seen w.prior
  pub later : IsUpTo w.prior w.seen

abbrev pub Claimed : Claim → View → View → Type 0
Claimed (claim.Held version) v w = HoldsNow version v w
Claimed (claim.Moved before after) v w = HasMoved before after v w

-- as many numbers from this one on as are asked for, and as there are below the end and below the held version's limit
abbrev pub as_many : Tables → ℕ → ℕ → ℕ → ℕ → ℕ
as_many p end most number held = min most (min (end - number) (limit p held - number))

-- So many numbers in a row are the seat's, from this one on, under the version that it holds, which is the one in force.
pub record HasDrawn (p : Tables) (end most number count held : ℕ) (v w : View) : Type 0 where
  pub after : w ≡ taking (read_twice v w) (consecutive number count held)
  pub in_force : w.seen.version ≡ held
  pub is_next : w.seen.records ≡ number
  pub sees_first : Sees v w.prior
  pub sees_second : Sees (reading v w.prior) w.seen
  pub same : w.prior ≡ w.seen
  pub many : count ≡ as_many p end most number held
  pub some_one : 1 ≤ count
  pub below_end : number + count ≤ end
  pub below_limit : number + count ≤ limit p held
  pub earlier : IsUpTo v.seen w.prior
  -- The numbers are above those of the seat's earlier draws.
  pub drawn : All (IsDrawnBy w.seen) v.actor.draws

-- One reading decided: another version is in force, the end is reached, or the limit.
pub record IsNotHeld (now held : ℕ) (v w : View) : Type 0 where
  pub after : w ≡ reading v w.seen
  pub version : w.seen.version ≡ now
  pub other : now ≢ held
  pub sees : Sees v w.seen

pub record IsAtEnd (end held : ℕ) (v w : View) : Type 0 where
  pub after : w ≡ reading v w.seen
  pub in_force : w.seen.version ≡ held
  pub reached : end ≤ w.seen.records
  pub sees : Sees v w.seen

pub record IsAtLimit (p : Tables) (end records held : ℕ) (v w : View) : Type 0 where
  pub after : w ≡ reading v w.seen
  pub in_force : w.seen.version ≡ held
  pub below_end : w.seen.records < end
  pub limit_is : limit p held ≡ records
  pub reached : w.seen.records ≡ records
  pub sees : Sees v w.seen

-- The exchange found another word than was read.
pub record HasLost (p : Tables) (end saw found held : ℕ) (v w : View) : Type 0 where
  pub after : w ≡ read_twice v w
  pub first : packed w.prior ≡ saw
  pub second : packed w.seen ≡ found
  pub sees_first : Sees v w.prior
  pub sees_second : Sees (reading v w.prior) w.seen
  pub in_force : w.prior.version ≡ held
  pub below_end : w.prior.records < end
  pub below_limit : w.prior.records < limit p held
  pub rises : saw < found
  pub earlier : IsUpTo v.seen w.prior
  pub later : IsUpTo w.prior w.seen
  pub drawn : All (IsDrawnBy w.prior) v.actor.draws

abbrev pub RunDrawn : DrawRun → Tables → ℕ → ℕ → ℕ → View → View → Type 0
RunDrawn (run.Taken number count) p end most held v w = HasDrawn p end most number count held v w
RunDrawn (run.Moved now) p end most held v w = IsNotHeld now held v w
RunDrawn run.End p end most held v w = IsAtEnd end held v w
RunDrawn (run.Hold records) p end most held v w = IsAtLimit p end records held v w
RunDrawn (run.Lost saw found) p end most held v w = HasLost p end saw found held v w

-- the answer of a draw of one number
abbrev pub one_of : DrawRun → Draw
one_of (run.Taken number count) = draw.Taken number
one_of (run.Moved now) = draw.Moved now
one_of run.End = draw.End
one_of (run.Hold records) = draw.Hold records
one_of (run.Lost saw found) = draw.Lost saw found

abbrev pub Drawn : Draw → Tables → ℕ → ℕ → View → View → Type 0
Drawn (draw.Taken number) p end held v w = HasDrawn p end 1 number 1 held v w
Drawn (draw.Moved now) p end held v w = IsNotHeld now held v w
Drawn draw.End p end held v w = IsAtEnd end held v w
Drawn (draw.Hold records) p end held v w = IsAtLimit p end records held v w
Drawn (draw.Lost saw found) p end held v w = HasLost p end saw found held v w

-- No table is left.
pub record NoneDue (p : Tables) (v w : View) : Type 0 where
  pub after : w ≡ reading v w.seen
  pub last : length p.tables ≤ w.seen.version + 1
  pub rests : w.desk ≡ Resting
  pub sees : Sees v w.seen

-- Fewer records were drawn than the next table's window wants.
pub record LaterDue (p : Tables) (records earliest : ℕ) (v w : View) : Type 0 where
  pub after : w ≡ reading v w.seen
  pub more : w.seen.version + 1 < length p.tables
  pub read : w.seen.records ≡ records
  pub wants : (window p (w.seen.version + 1)).earliest ≡ earliest
  pub too_few : records < earliest
  pub rests : w.desk ≡ Resting
  pub sees : Sees v w.seen

pub record NowDue (p : Tables) (v w : View) : Type 0 where
  pub after : w ≡ record (reading v w.seen) { desk = Ready }
  pub more : w.seen.version + 1 < length p.tables
  pub reached : (window p (w.seen.version + 1)).earliest ≤ w.seen.records
  pub sees : Sees v w.seen

abbrev pub IsDue : Due → Tables → View → View → Type 0
IsDue due.Now p v w = NowDue p v w
IsDue (due.Later records earliest) p v w = LaterDue p records earliest v w
IsDue due.None p v w = NoneDue p v w

-- Nobody asks for the spare area or holds it, by this call's reading of its count.
pub record IsFree (v w : View) : Type 0 where
  pub after : w ≡ record v { desk = Writing 0; counted = 0; counts = v.counts + 1 }
  pub sees : SeesClaims v 0

pub record IsClaimed (count : ℕ) (v w : View) : Type 0 where
  pub after : w ≡ record v { counted = count; counts = v.counts + 1 }
  pub some_one : 1 ≤ count
  pub sees : SeesClaims v count

abbrev pub IsQuiet : Quiet → View → View → Type 0
IsQuiet quiet.Free v w = IsFree v w
IsQuiet (quiet.Claimed count) v w = IsClaimed count v w

-- The next table is in force, from the record with the number of the point on: so many were drawn.
pub record HasPublished (point : ℕ) (v w : View) : Type 0 where
  pub after : w ≡ record v { desk = Resting; points = v.points ++ point ∷ [] }
  pub sees : Sees v (record { version = length v.points; records = point })
  pub in_window : ((window v.plan (length v.points + 1)).earliest ≤ point) × (point ≤ (window v.plan (length v.points + 1)).latest)
  pub rises : (k : ℕ) → k < length v.points → slice_index v.points k ≤ point
