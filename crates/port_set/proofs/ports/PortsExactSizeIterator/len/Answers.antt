use Rattle.std.proofs.Common.{length, ap, sym, ◌∙◌}
use Rattle.port_set.proofs.Spans.{length-ports_between}
use Rattle.port_set.proofs.ports.PortsExactSizeIterator.len.Goals as goal

pub returns-clause-value : goal.returns-clause-value
returns-clause-value c = sym (length-ports_between _ _ _ _ _) ∙ ap length c.self.view_is
