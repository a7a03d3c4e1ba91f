use Rattle.std.proofs.Common.{refl, sym}
use Rattle.binding_file.proofs.Trees.{then_ok}
use Rattle.binding_file.proofs.keys.address6_of.Goals as goal

pub returns-in-Err : goal.returns-in-Err
returns-in-Err c = then_ok _ c.in_ok-text_of.field-0.now _ _ (sym c.in_ok-text_of.ensures) (refl, c.in-Err.ensures.bad.0 refl)
