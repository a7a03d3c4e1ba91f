use Rattle.std.proofs.Common.{◌≡◌, ◌-◌, ◌/◌, ◌^◌, ◌<◌, ◌⊎◌, inl, inr, arith}
use Rattle.port_set.proofs.Owners.{masked_is_owner, above_low}
use Rattle.port_set.proofs.sets.psid_of.Goals as goal
use Rattle.port_set.proofs.sets.psid_of.Goals.{else-offset-gt0-via-then-offset-gt0+else-bits-offset-eq0, else-offset-gt0-via-else-offset-gt0}

pub returns-clause-owner : goal.returns-clause-owner
returns-clause-owner c =
    let not_low : (c.args.shape.offset ≡ 0) ⊎ (0 < c.args.port / 2 ^ (16 - c.args.shape.offset)) =
    elim c.else-offset-gt0.branch [
      | else-offset-gt0-via-then-offset-gt0+else-bits-offset-eq0 w ↦
          inr (above_low _ _ (rw (c.from-bits.ensures, w.offset-then-offset-gt0.ensures.value) at w.if-bits-offset-eq0.false))
      | else-offset-gt0-via-else-offset-gt0 w ↦ inl (omega (arith, c.offset.ensures.value, w.if-offset-gt0.false))
    ] in
    rw (c.mask.ensures, c.tail.ensures.value, c.length.ensures.value, c.from-bits.ensures)
    (masked_is_owner _ _ _ (omega arith) not_low)
