use Rattle.lwaftr_engine.proofs.Words.{IsOnDuty, Tables, subst, sym}
use Rattle.lwaftr_engine.proofs.run.router_of.Goals as goal

pub returns : goal.returns
returns c =
    let shift = c.in_ok-begin_shift.ensures in
    let its_plan = shift.duty.its_plan in
    let D : Tables → Type 0 = λ k. IsOnDuty k c.in_ok-begin_shift.field-0 in
    record {
      start = record {
        loads = c.requires.loads;
        compiled = rw its_plan c.requires.compiled;
        duty = subst D (sym its_plan) shift.duty;
        no_draws = shift.drawn;
        no_points = shift.points;
        first = c.in_ok-at_first.ensures;
      };
      plan = its_plan;
    }
