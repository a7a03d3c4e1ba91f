use Rattle.std.proofs.Common.{◌≡◌, take}
use Rattle.swap_core.specs.Transitions.{after_all}
use Rattle.swap_core.proofs.machine.Core.run.Given as goal

abbrev pub invariant-steps : goal.invariant-steps
invariant-steps l = l.self ≡ after_all l.initial.self (take l.step-index l.steps)
