use Rattle.port_locate.proofs.ReadLemmas.{fragments_none, identifiers_read, others_read, ports_read, quoted_read}
use Rattle.port_locate.proofs.places.ports_are_read.Goals as goal

pub returns-clause-ports : goal.returns-clause-ports
returns-clause-ports c = λ p whole has long. ports_read p whole has long

pub returns-clause-identifiers : goal.returns-clause-identifiers
returns-clause-identifiers c = λ p whole icmp long kind. identifiers_read p whole icmp long kind

pub returns-clause-quoted : goal.returns-clause-quoted
returns-clause-quoted c = λ p message quoted whole icmp read quotes first has long. quoted_read p whole message quoted icmp read quotes first has long

pub returns-clause-others : goal.returns-clause-others
returns-clause-others c = λ p whole not_icmp none. others_read p whole not_icmp none

pub returns-clause-fragments : goal.returns-clause-fragments
returns-clause-fragments c = fragments_none
