use Rattle.std.proofs.Common.{◌≡◌, ◌<◌, ◌+◌, ◌-◌, arith, sym, ap, ◌∙◌, length}
use Rattle.port_set.proofs.Spans.{ports_between_first, length-ports_between}
use Rattle.port_set.proofs.ports.PortsIterator.next.Goals as goal

pub returns-clause-steps : goal.returns-clause-steps
returns-clause-steps c =
    let more : c.self.inside.front < c.self.inside.back = omega arith in
    rw (← c.self.view_is, c.port_of-port.ensures) (ports_between_first _ _ _ _ _ more)

pub returns-clause-goes : goal.returns-clause-goes
returns-clause-goes c =
    let was : length c.args.self.now ≡ c.self.inside.back - c.self.inside.front =
    ap length (sym c.self.view_is) ∙ length-ports_between _ _ _ _ _ in
    record {
      on = λ _. (tt, tt, omega (arith, was, length-ports_between c.self.inside.shape.offset c.self.inside.shape.length c.self.inside.psid (c.self.inside.front + 1) c.self.inside.back));
      keeps = tt;
      rests = λ _. tt;
    }
