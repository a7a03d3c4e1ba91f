use Rattle.std.proofs.Common.{length}
use Rattle.load_files.proofs.files.+loads_of.Given as goal

abbrev pub decreases-loads_of : goal.decreases-loads_of
decreases-loads_of g l = length l.files.items
