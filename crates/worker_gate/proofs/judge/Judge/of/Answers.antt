use Rattle.worker_gate.proofs.Judged.{holding_of}
use Rattle.worker_gate.proofs.Trying.{reads_on_holding}
use Rattle.worker_gate.proofs.WholeLemmas.{held_on}
use Rattle.worker_gate.proofs.judge.Judge.of.Goals as goal

pub invariant_of-result : goal.invariant_of-result
invariant_of-result c =
    let areas = c.held.inside.areas.now in
    let version = c.held.inside.version in
    let s = c.held.inside.seat in
    let t = c.settings_of-settings.new.seat in
    let only = c.settings_of-settings.ensures.reads in
    let settings = c.settings_of-settings.result in (
      held_on areas version s t only c.held.invariant.0,
      reads_on_holding areas version settings s t only
          (holding_of areas version settings s c.held.invariant.0 c.held.invariant.1 c.settings_of-settings.ensures.value),
      c.held.invariant.1,
    )
