-- One step at the ends of a line. Ours.
use Rattle.std.specs.Prelude.{Bool, List, None, Option, Some, false, is_some, ◌++◌, [], ◌∷◌, ◌≡◌}
use Rattle.rtrb.specs.Ring.{IsPair, SameConsumer, SameProducer, known_items, received, sent}
use Rattle.round_pipeline.specs.declared.capture.ReadEnd.{ReadEnd}
use Rattle.round_pipeline.specs.declared.worker.JudgeEnd.{JudgeEnd}
use Rattle.round_pipeline.specs.declared.writer.WriteEnd.{WriteEnd}
use Rattle.round_pipeline.specs.Lists.{buffers, fresh}
use Rattle.round_pipeline.specs.Rounds.{IsPut}

module _ {T : Type 0} where
  -- still the ends of that line
  pub record SameReadEnd (before now : ReadEnd T) : Type 0 where
    pub work : SameProducer before.work now.work
    pub back : SameConsumer before.back now.back

  pub record SameWriteEnd (before now : WriteEnd T) : Type 0 where
    pub made : SameConsumer before.made now.made
    pub back : SameProducer before.back now.back

  pub record SameJudgeEnd (before now : JudgeEnd T) : Type 0 where
    pub work : SameConsumer before.work now.work
    pub made : SameProducer before.made now.made

  -- nothing was sent or taken
  pub record IsUnread (before now : ReadEnd T) : Type 0 where
    pub work : sent now.work ≡ sent before.work
    pub back : received now.back ≡ received before.back

  -- its worker was told that no more is read
  pub record WasEnded (before now : ReadEnd T) : Type 0 where
    pub work : sent now.work ≡ sent before.work ++ None ∷ []
    pub back : now.back ≡ before.back

  -- one round was read, into a buffer that came back while the sink went on
  pub record HasFilled {S : Type 0} (fills : S → T → S → T → Bool → Type 0) (source now : S) (before line : ReadEnd T) (more : Bool) : Type 0 where
    pub room : T
    pub round : T
    pub took : received line.back ≡ received before.back ++ record { buffer = room; over = false } ∷ []
    pub gave : sent line.work ≡ sent before.work ++ Some round ∷ []
    pub filled : fills source room now round more

  -- one round was put, or passed by
  pub record HasPut {W E : Type 0} (puts : W → T → W → T → Option E → Type 0) (sink : W) (earlier : Option E) (before : WriteEnd T) (now : W) (answer : Option E)
      (line : WriteEnd T) : Type 0 where
    pub product : T
    pub back : T
    pub took : received line.made ≡ received before.made ++ Some product ∷ []
    pub gave : sent line.back ≡ sent before.back ++ record { buffer = back; over = is_some answer } ∷ []
    pub put : IsPut puts sink earlier product now answer back

  -- the ends of one line
  pub record AreEnds (r : ReadEnd T) (j : JudgeEnd T) (w : WriteEnd T) : Type 0 where
    pub work : IsPair r.work j.work
    pub made : IsPair j.made w.made
    pub back : IsPair w.back r.back

  -- the ends of one line that nobody has used, with its buffers on their way to whoever reads
  pub record IsNewLine (r : ReadEnd T) (j : JudgeEnd T) (w : WriteEnd T) : Type 0 where
    pub ends : AreEnds r j w
    pub work_sent : sent r.work ≡ []
    pub work_taken : received j.work ≡ []
    pub made_sent : sent j.made ≡ []
    pub made_taken : received w.made ≡ []
    pub back_sent : sent w.back ≡ fresh (buffers (sent w.back))
    pub back_taken : received r.back ≡ []

  -- What lies in the rings of a line, once its ends are in one hand. `known_items` of the ring of buffers are then all that lie there.
  pub record HaveMet (r : ReadEnd T) (j : JudgeEnd T) (w : WriteEnd T) (met_r : ReadEnd T) (met_w : WriteEnd T) : Type 0 where
    pub work_left : List (Option T)
    pub work : received j.work ++ work_left ≡ sent r.work
    pub made_left : List (Option T)
    pub made : received w.made ++ made_left ≡ sent j.made
    pub left : received r.back ++ known_items met_r.back ≡ sent w.back
    pub took : received met_r.back ≡ received r.back
    pub gave : sent met_w.back ≡ sent w.back
    pub pair : IsPair met_w.back met_r.back
