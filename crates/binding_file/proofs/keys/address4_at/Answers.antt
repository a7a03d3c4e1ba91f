use Rattle.std.proofs.Common.{subst}
use Rattle.binding_file.specs.Parts.{IsAddress4From}
use Rattle.binding_file.proofs.keys.address4_at.Goals as goal

pub returns : goal.returns
returns c = subst (λ d. IsAddress4From d c.args.place c.address4_of.result) c.member_at.ensures c.address4_of.ensures
