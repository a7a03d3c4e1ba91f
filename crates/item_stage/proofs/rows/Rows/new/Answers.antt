use Rattle.std.proofs.Common.{subst, sym}
use Rattle.item_stage.specs.Heads.{EachLane}
use Rattle.item_stage.specs.Waiting.{Waiting}
use Rattle.item_stage.specs.declared.keys.DownKey.{DownKey}
use Rattle.item_stage.specs.declared.keys.InnerKey.{InnerKey}
use Rattle.item_stage.proofs.HeadLemmas.{none_waits}
use Rattle.item_stage.proofs.rows.Rows.new.Goals as goal

pub returns-clause-headers : goal.returns-clause-headers
returns-clause-headers c =
    record {
      inner = subst (λ (row : Waiting InnerKey). EachLane row) (sym c.in_ok-new-2.ensures) none_waits;
      down = subst (λ (row : Waiting DownKey). EachLane row) (sym c.in_ok-new-3.ensures) none_waits;
    }
