use Rattle.round_pipeline.proofs.desk.Desk.take_turn.Goals as goal

pub invariant_of-self : goal.invariant_of-self
invariant_of-self g c =
    let was = c.self.invariant in (
      was.0,
      was.1,
      c.take_turn.ensures was.0 was.2,
    )
