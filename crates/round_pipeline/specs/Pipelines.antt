-- A run as a whole. The latest is the first of each list. Ours.
use Rattle.std.specs.Prelude.{Bool, List, Option, length, map, slice_index_or, ℕ, [], ◌++◌, ◌<◌, ◌≡◌, ◌≢◌}
use Rattle.rtrb.specs.Ring.{IsPair, known_items, received, sent}
use Rattle.round_pipeline.specs.declared.capture.ReadEnd.{ReadEnd}
use Rattle.round_pipeline.specs.declared.finished.Finished.{Finished}
use Rattle.round_pipeline.specs.declared.finished.Seat.{Seat}
use Rattle.round_pipeline.specs.declared.rings.Returned.{Returned}
use Rattle.round_pipeline.specs.declared.writer.WriteEnd.{WriteEnd}
use Rattle.round_pipeline.specs.declared.writer.Writing.{Writing}
use Rattle.round_pipeline.specs.Ends.{IsNewLine}
use Rattle.round_pipeline.specs.Lists.{AreBelow, buffers, fresh, in_order, share}
use Rattle.round_pipeline.specs.Rounds.{AreFilled, AreJudged, ArePut}
use Rattle.round_pipeline.specs.Threads.{IsWriting}

-- a writer that has not begun
pub record CanWrite {W T E : Type 0} (ready : W → Type 0) (puts : W → T → W → T → Option E → Type 0) (n : ℕ) (w : Writing T E W) : Type 0 where
  pub ready_now : ready w.sink
  pub writing : IsWriting puts n w.sink w.lines.items (received w.order.turns) w.order.ended w.sink w.answer w.lines.items

module _ {S J W T E : Type 0} (fills : S → T → S → T → Bool → Type 0) (judges : J → T → J → T → Type 0) (puts : W → T → W → T → Option E → Type 0) where
  -- what was made so far of what a run began with, with all rings in one hand
  pub record IsRunning (n : ℕ) (source : S) (seats : List (Seat T J)) (sink : W) (first : List (WriteEnd T)) (f : Finished T S J W E) : Type 0 where
    pub order : List ℕ
    pub rooms : List T
    pub rounds : List T
    pub products : List T
    pub backs : List (Returned T)
    pub sizes : (length f.reads.items ≡ n) × (length f.seats.items ≡ n) × (length f.writes.items ≡ n)
    pub below : AreBelow n order
    pub many : (length rounds ≡ length order) × (length products ≡ length order)
    pub many_rooms : length rooms ≡ length order
    pub many_backs : length backs ≡ length order
    pub filled : AreFilled fills source rooms rounds f.source f.more
    pub judged : (i : ℕ) (d : Seat T J) → i < n →
        AreJudged judges (slice_index_or seats i d).judge (share order i rounds) (share order i products) (slice_index_or f.seats.items i d).judge
    pub put : ArePut puts sink products backs f.sink f.answer
    pub took : (i : ℕ) (d : ReadEnd T) → i < n → received (slice_index_or f.reads.items i d).back ≡ fresh (in_order (share order i rooms))
    pub gave : (i : ℕ) (d : WriteEnd T) → i < n →
        sent (slice_index_or f.writes.items i d).back ≡ sent (slice_index_or first i d).back ++ in_order (share order i backs)
    pub pairs : (i : ℕ) (r : ReadEnd T) (w : WriteEnd T) → i < n → IsPair (slice_index_or f.writes.items i w).back (slice_index_or f.reads.items i r).back
    -- the buffers of all lines but the first one, which a single thread goes on with
    pub left : (i : ℕ) (r : ReadEnd T) (w : WriteEnd T) → i < n → i ≢ 0 →
        received (slice_index_or f.reads.items i r).back ++ known_items (slice_index_or f.reads.items i r).back ≡ sent (slice_index_or f.writes.items i w).back

  -- all that a run owes to its caller's values
  pub record IsReady (ready_s : S → Type 0) (ready_j : J → Type 0) (ready_w : W → Type 0) (n : ℕ) (f : Finished T S J W E) : Type 0 where
    pub source : ready_s f.source
    pub judges_ready : (i : ℕ) (d : Seat T J) → i < n → ready_j (slice_index_or f.seats.items i d).judge
    pub sink : ready_w f.sink

-- a pipeline as its caller sees it: the judge and the buffers of each worker, in the order in which they were added
pub record Crew (J T : Type 0) : Type 0 where
  pub judges : List J
  pub buffers : List (List T)

module _ {T J : Type 0} where
  abbrev pub judges_of : List (Seat T J) → List J
  judges_of seats = map (λ s. s.judge) seats

  abbrev pub crew_of : List (Seat T J) → List (WriteEnd T) → Crew J T
  crew_of seats writes = record { judges = judges_of seats; buffers = map (λ w. buffers (sent w.back)) writes }

  -- a pipeline whose rings nobody has used
  pub record IsFresh (reads : List (ReadEnd T)) (seats : List (Seat T J)) (writes : List (WriteEnd T)) : Type 0 where
    pub sizes : (length seats ≡ length reads) × (length writes ≡ length reads)
    pub lines : (i : ℕ) (r : ReadEnd T) (j : Seat T J) (w : WriteEnd T) → i < length reads →
        IsNewLine (slice_index_or reads i r) (slice_index_or seats i j).line (slice_index_or writes i w)

  -- the buffers that each worker has still, the oldest first
  abbrev pub buffers_left : {S W E : Type 0} → Finished T S J W E → List (List T)
  buffers_left f = map (λ r. buffers (known_items r.back)) f.reads.items

  -- all but one worker's buffers are as they were
  pub record IsLeft {S W E : Type 0} (number : ℕ) (before now : Finished T S J W E) : Type 0 where
    pub source : now.source ≡ before.source
    pub seats : now.seats ≡ before.seats
    pub sink : now.sink ≡ before.sink
    pub answer : now.answer ≡ before.answer
    pub others : (i : ℕ) → i ≢ number → slice_index_or (buffers_left now) i [] ≡ slice_index_or (buffers_left before) i []

module _ {S J W T E : Type 0} (fills : S → T → S → T → Bool → Type 0) (judges : J → T → J → T → Type 0) (puts : W → T → W → T → Option E → Type 0) where
  -- what was made so far of a pipeline
  abbrev pub HasBegun : Crew J T → S → W → Finished T S J W E → Type 0
  HasBegun crew source sink f =
      (seats : List (Seat T J)) × (first : List (WriteEnd T)) × (judges_of seats ≡ crew.judges) × (map (λ w. buffers (sent w.back)) first ≡ crew.buffers)
      × (length first ≡ length crew.judges)
      × ((i : ℕ) (d : WriteEnd T) → i < length first → sent (slice_index_or first i d).back ≡ fresh (buffers (sent (slice_index_or first i d).back)))
      × IsRunning fills judges puts (length crew.judges) source seats sink first f
