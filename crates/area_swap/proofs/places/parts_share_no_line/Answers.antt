use Rattle.area_swap.proofs.Apart.{parts_apart}
use Rattle.area_swap.proofs.places.parts_share_no_line.Goals as goal

pub returns : goal.returns
returns c = parts_apart
