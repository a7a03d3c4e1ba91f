use Rattle.std.proofs.Common.{◌≡◌, replicate}
use Rattle.swap_core.specs.States.{newcomer}
use Rattle.swap_core.proofs.actors.newcomers.Given as goal

abbrev pub invariant-actors : goal.invariant-actors
invariant-actors l = l.actors.items ≡ replicate l.counter newcomer
