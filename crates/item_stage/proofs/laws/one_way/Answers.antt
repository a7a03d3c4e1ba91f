use Rattle.item_stage.proofs.KeyLemmas.{down_read, inner_read, outer_read}
use Rattle.item_stage.proofs.SourceLemmas.{one_way}
use Rattle.std.proofs.Common.{refl}
use Rattle.ip_codec.specs.Packet4 as four
use Rattle.item_stage.proofs.laws.one_way.Goals as goal

pub returns-clause-way : goal.returns-clause-way
returns-clause-way c = λ form rs number i there. one_way form rs number i there

pub returns-clause-down : goal.returns-clause-down
returns-clause-down c = λ bytes key piece is. down_read bytes (four.ip4_of bytes) refl key piece is

pub returns-clause-inner : goal.returns-clause-inner
returns-clause-inner c = λ outer o bytes key piece is. inner_read outer o bytes (four.ip4_of bytes) refl key piece is

pub returns-clause-outer : goal.returns-clause-outer
returns-clause-outer c = λ outer o next bytes header key piece is. outer_read outer o next bytes header key piece is
