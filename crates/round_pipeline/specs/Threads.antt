-- What each thread of a run has made so far. The latest is the first of each list. Ours.
use Rattle.std.specs.Prelude.{Bool, List, Option, length, slice_index_or, true, ℕ, [], ◌++◌, ◌<◌, ◌≡◌}
use Rattle.rtrb.specs.Ring.{SameConsumer, SameProducer, received, sent}
use Rattle.round_pipeline.specs.declared.capture.Capture.{Capture}
use Rattle.round_pipeline.specs.declared.capture.ReadEnd.{ReadEnd}
use Rattle.round_pipeline.specs.declared.finished.Seat.{Seat}
use Rattle.round_pipeline.specs.declared.rings.Returned.{Returned}
use Rattle.round_pipeline.specs.declared.writer.OrderEnd.{OrderEnd}
use Rattle.round_pipeline.specs.declared.writer.WriteEnd.{WriteEnd}
use Rattle.round_pipeline.specs.Ends.{AreEnds, SameJudgeEnd, SameReadEnd, SameWriteEnd}
use Rattle.round_pipeline.specs.Lists.{AreBelow, ends, fresh, in_order, share, told}
use Rattle.round_pipeline.specs.Rounds.{AreFilled, AreJudged, ArePut}

module _ {S T : Type 0} (fills : S → T → S → T → Bool → Type 0) where
  -- what was read, and whether all were told that no more is
  pub record IsTurning (n : ℕ) (start now : S) (lines : List (ReadEnd T)) (turns : List (Option ℕ)) (more closed : Bool) : Type 0 where
    pub order : List ℕ
    pub rooms : List T
    pub rounds : List T
    pub size : length lines ≡ n
    pub below : AreBelow n order
    pub many : length rooms ≡ length order
    pub many_rounds : length rounds ≡ length order
    pub turns_are : turns ≡ told order ++ ends closed
    pub gave : (i : ℕ) (d : ReadEnd T) → i < n → sent (slice_index_or lines i d).work ≡ told (share order i rounds) ++ ends closed
    pub took : (i : ℕ) (d : ReadEnd T) → i < n → received (slice_index_or lines i d).back ≡ fresh (in_order (share order i rooms))
    pub filled : AreFilled fills start rooms rounds now more

module _ {S T : Type 0} (ready : S → Type 0) (fills : S → T → S → T → Bool → Type 0) where
  -- what was made of what a run began with
  pub record IsDesk (first now : Capture T S) : Type 0 where
    pub same : (i : ℕ) (d : ReadEnd T) → i < length first.lines.items → SameReadEnd (slice_index_or first.lines.items i d) (slice_index_or now.lines.items i d)
    pub turns : SameProducer first.order.turns now.order.turns
    pub ready_now : ready now.source
    pub turning : IsTurning fills (length first.lines.items) first.source now.source now.lines.items (sent now.order.turns) now.more now.closed

  abbrev pub IsDeskOf : (Capture T S → Type 0) → Capture T S → Type 0
  IsDeskOf begins now = (first : Capture T S) × begins first × IsDesk first now

-- what a judge took, and what it gave
pub record IsJudging {J T : Type 0} (judges : J → T → J → T → Type 0) (start now : J) (took gave : List (Option T)) (closed : Bool) : Type 0 where
  pub rounds : List T
  pub products : List T
  pub took_are : took ≡ told rounds ++ ends closed
  pub gave_are : gave ≡ told products ++ ends closed
  pub judged : AreJudged judges start rounds products now

module _ {J T : Type 0} (ready : J → Type 0) where
  -- a worker that has not begun
  pub record CanServe (s : Seat T J) : Type 0 where
    pub ready_now : ready s.judge
    pub took_none : received s.line.work ≡ []
    pub gave_none : sent s.line.made ≡ []

  -- a worker that has ended
  pub record HasServed (judges : J → T → J → T → Type 0) (before now : Seat T J) : Type 0 where
    pub same : SameJudgeEnd before.line now.line
    pub ready_still : ready now.judge
    pub judged : IsJudging judges before.judge now.judge (received now.line.work) (sent now.line.made) true

  -- all workers
  pub record HaveServed (judges : J → T → J → T → Type 0) (n : ℕ) (before now : List (Seat T J)) : Type 0 where
    pub size : length now ≡ n
    pub each : (i : ℕ) (d : Seat T J) → i < n → HasServed judges (slice_index_or before i d) (slice_index_or now i d)

module _ {W T E : Type 0} (puts : W → T → W → T → Option E → Type 0) where
  -- what was put, in the order that the writer was told, and whether it was told the end
  pub record IsWriting (n : ℕ) (start : W) (first : List (WriteEnd T)) (turns : List (Option ℕ)) (ended : Bool) (now : W) (answer : Option E)
      (lines : List (WriteEnd T)) : Type 0 where
    pub order : List ℕ
    pub products : List T
    pub backs : List (Returned T)
    pub size : length lines ≡ n
    pub many : length products ≡ length order
    pub many_backs : length backs ≡ length order
    pub turns_are : turns ≡ told order ++ ends ended
    pub took : (i : ℕ) (d : WriteEnd T) → i < n → received (slice_index_or lines i d).made ≡ told (share order i products)
    pub gave : (i : ℕ) (d : WriteEnd T) → i < n → sent (slice_index_or lines i d).back ≡ sent (slice_index_or first i d).back ++ in_order (share order i backs)
    pub put : ArePut puts start products backs now answer

  -- what the writer has done when its thread ends
  pub record HasWritten (ready : W → Type 0) (n : ℕ) (start now : W) (answer : Option E) (before lines : List (WriteEnd T)) (end now_end : OrderEnd) : Type 0 where
    pub same : (i : ℕ) (d : WriteEnd T) → i < n → SameWriteEnd (slice_index_or before i d) (slice_index_or lines i d)
    pub turns : SameConsumer end.turns now_end.turns
    pub ready_still : ready now
    pub written : IsWriting n start before (received now_end.turns) now_end.ended now answer lines

module _ {T : Type 0} where
  -- the ends of each line
  abbrev pub AreLines : {J : Type 0} → ℕ → List (ReadEnd T) → List (Seat T J) → List (WriteEnd T) → Type 0
  AreLines {J} n rs js ws =
      (i : ℕ) (r : ReadEnd T) (j : Seat T J) (w : WriteEnd T) → i < n → AreEnds (slice_index_or rs i r) (slice_index_or js i j).line (slice_index_or ws i w)
