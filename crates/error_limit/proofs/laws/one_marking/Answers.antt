use Rattle.error_limit.proofs.Unique.{same_marks}
use Rattle.error_limit.proofs.laws.one_marking.Goals as goal

-- src/laws.rt:6:1
pub returns : goal.returns
returns c = same_marks
