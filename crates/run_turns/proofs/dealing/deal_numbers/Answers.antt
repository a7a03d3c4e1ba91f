use Rattle.std.proofs.Common.{List, ap, arith, length, length-append, subst, ℕ, ◌∙◌}
use Rattle.area_swap.specs.Values.{AreasValue, IsOf}
use Rattle.swap_core.specs.States.{consecutive}
use Rattle.run_turns.proofs.Elements.{consecutive_count}
use Rattle.run_turns.proofs.dealing.deal_numbers.Goals as goal

pub returns-in-Taken-clause-can : goal.returns-in-Taken-clause-can
returns-in-Taken-clause-can g c =
    let known = c.tries.invariant.can in
    let drawn = c.in-Taken.ensures.drawn.0 in
    let news = consecutive c.args.start c.in-Taken.count c.in-Taken.held.version in
    record {
      seat_areas = subst (λ (areas : AreasValue). IsOf areas c.draw_for.new.drawer) c.tries.invariant.its_areas c.in-Taken.ensures.areas;
      idle = c.in-Taken.ensures.idle;
      alone = drawn.same_right ∙ known.alone;
      drawn = omega (
        arith,
        ap (λ (l : List (ℕ × ℕ)). length l) drawn.draws,
        length-append c.tries.dealer.seat.known.actor.draws news,
        consecutive_count c.args.start c.in-Taken.count c.in-Taken.held.version,
        known.drawn,
      );
      desk = c.publish.ensures.desk;
    }
