use Rattle.binding_rules.proofs.Having.{owners_are_listed, owns_what_it_has, whole_is_every_port}
use Rattle.binding_rules.proofs.owning.ownership.Goals as goal

pub returns-clause-owns : goal.returns-clause-owns
returns-clause-owns c = owns_what_it_has

pub returns-clause-whole : goal.returns-clause-whole
returns-clause-whole c = whole_is_every_port

pub returns-clause-listed : goal.returns-clause-listed
returns-clause-listed c = owners_are_listed
