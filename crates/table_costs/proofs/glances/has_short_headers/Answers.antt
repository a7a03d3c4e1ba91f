use Rattle.std.proofs.Common.{subst, arith}
use Rattle.table_costs.specs.Costs.{IsShortHeader}
use Rattle.table_costs.proofs.Skips.{AreShort, first_bracket, no_bracket}
use Rattle.table_costs.proofs.glances.has_short_headers.Goals as goal

pub overflow_add-at : goal.overflow_add-at
overflow_add-at c = omega (arith, c.in-Some.ensures.0.high, c.brackets.invariant.room)

pub brackets-preserved : goal.brackets-preserved
brackets-preserved c =
    let at = c.in-Some.at in
    record {
      decides = λ short.
          c.brackets.invariant.decides (first_bracket c.brackets.rest.now at c.in-Some.ensures.0 c.in-Some.ensures.1
          (subst IsShortHeader c.split_at.ensures.back (c.is_short_header.ensures c.if-not-is_short_header.false)) (subst AreShort c.split_at.ensures.back short));
      room = omega (arith, c.split_at.ensures.back_len, c.brackets.invariant.room);
    }

pub returns : goal.returns
returns c = λ is. c.brackets.invariant.decides (no_bracket c.brackets.rest.now c.in_default.ensures)
