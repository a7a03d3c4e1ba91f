use Rattle.std.proofs.Common.{subst}
use Rattle.binding_file.specs.Parts.{IsAddress6From}
use Rattle.binding_file.proofs.keys.address6_at.Goals as goal

pub returns : goal.returns
returns c = subst (λ d. IsAddress6From d c.args.place c.address6_of.result) c.member_at.ensures c.address6_of.ensures
