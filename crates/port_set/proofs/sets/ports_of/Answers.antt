use Rattle.port_set.proofs.Members.{owned_ports_members, owned_ports_ascend}
use Rattle.port_set.proofs.sets.ports_of.Goals as goal

pub returns-clause-members : goal.returns-clause-members
returns-clause-members c = λ port. rw c.all.ensures (owned_ports_members _ _ _ port)

pub returns-clause-ascending : goal.returns-clause-ascending
returns-clause-ascending c = rw c.all.ensures (owned_ports_ascend _ _ _)
